-- What the rule says of control's view alone.
use Rattle.std.proofs.Common.{◌≡◌, ℕ, suc, ◌+◌, ◌-◌, ◌*◌, ◌^◌, ◌<◌, ◌≤◌, Bool, true, false, List, [], ◌∷◌, length, get_or, set, refl, sym, ap, ◌∙◌, subst, inl, inr, ⊎_elim, arith, length-set, get_or-set_same}
use mathlib.Core.Option.{some, some-ne-none, some-injective}
use lib.ListN.{get_elem?}
use Rattle.std.proofs.lemmas.Bool.{false≢true}
use Rattle.lan_base.specs.AssociationNumbers.{number_of}
use Rattle.lan_base.specs.declared.association_number.AssociationNumber.{AssociationNumber}
use Rattle.association_slots.specs.Words.{next_of}
use Rattle.association_slots.specs.Views.{In, Among, IsOpen, AllIn, free, weigh, adds, overs, gones, tally, one, met, lost, claimed, count, count_all}
use Rattle.association_slots.specs.Cards.{card_in, card_at, Knows}
use Rattle.association_slots.specs.Rule.{Around, AtLeast, tagged}
use Rattle.association_slots.specs.Learned.{IsNext, WasNext, IsTold, Learned}
use Rattle.association_slots.specs.declared.view.NextSeen.{NextSeen}
use Rattle.association_slots.specs.declared.view.Addition.{Addition}
use Rattle.association_slots.specs.declared.view.Mark.{Mark}
use Rattle.association_slots.specs.declared.view.ControlView.{ControlView}
use Rattle.association_slots.specs.declared.view.SeatView.{SeatView}
use Rattle.association_slots.specs.declared.view.View.{View}
use Rattle.association_slots.specs.declared.view.View.TheVariants.{Control, Seat, Spent}
use Rattle.association_slots.specs.declared.card.Card.{Card}
use Rattle.association_slots.specs.Steps.{seated}
use Rattle.association_slots.proofs.StaysSettled.{settled_out}
use Rattle.association_slots.proofs.Lists.{weigh_at, among_at, among_from}

-- no view has additions, so there are none
none_at_all : (h : Addition → ℕ) (vs : List View) → ((j : ℕ) (v : View) → get_elem? vs j ≡ some v → adds v ≡ []) → tally h vs ≡ 0
none_at_all h [] each = refl
none_at_all h (v ∷ vs) each = let e : weigh h (adds v) ≡ 0 = ap (weigh h) (each 0 v refl) in let r = none_at_all h vs (λ j x at. each (suc j) x at) in omega arith

-- where no seat is out, all additions were told
pub told_all : (h : Addition → ℕ) (c : ControlView) (ws : List ℕ) (vs : List View) → Around c ws vs → AllIn c → tally h vs ≡ weigh h c.told
told_all h c ws [] a all_in = absurd (some-ne-none (Control c) (sym a.at_control))
told_all h c ws (x ∷ vs) a all_in = let r = none_at_all h vs no_adds in let e : weigh h (adds x) ≡ weigh h c.told = ap (λ (y : View). weigh h (adds y)) (some-injective _ _ a.at_control) in omega arith
  where
    no_adds : (j : ℕ) (v : View) → get_elem? vs j ≡ some v → adds v ≡ []
    no_adds j (Control d) at = let z : suc j ≡ 0 = a.alone (suc j) d at in absurd (omega arith)
    no_adds j (Seat u) at = absurd (false≢true (sym (all_in (u.number - 1)) ∙ (a.seats (suc j) u at).0.number.2))
    no_adds j Spent at = refl

-- a card whose words were read is the card that stands there
pub card_known : (c : ControlView) (reads : List (ℕ × ℕ)) → ((r : ℕ × ℕ) → In r reads → (i : ℕ) × (r.0 ≡ 5 + i) × (i < length c.card_words) × (get_or c.card_words i 0 ≡ r.1))
    → (epoch : ℕ) (card : Card) → 0 < epoch → Knows reads epoch card → card_at c epoch ≡ card
card_known c reads ok epoch card some_epoch k = words ∙ sym k.10
  where
    word : (i x : ℕ) → In (5 * epoch + i, x) reads → get_or c.card_words (5 * (epoch - 1) + i) 0 ≡ x
    word i x j = let r = ok _ j in ap (λ (n : ℕ). get_or c.card_words n 0) (let e = r.1 in omega arith) ∙ r.3

    words : card_at c epoch ≡ card_in k.0 k.1 k.2 k.3 k.4
    words = λ i. card_in (word 0 k.0 (subst (λ (n : ℕ). In (n, k.0) reads) (omega arith) k.5) i) (word 1 k.1 k.6 i) (word 2 k.2 k.7 i) (word 3 k.3 k.8 i) (word 4 k.4 k.9 i)

module _ (c : ControlView) (ws : List ℕ) (vs : List View) (a : Around c ws vs) where
  -- what control was told stands among all
  told_add : (b : Addition) → In b c.told → Among adds b vs
  told_add b i = among_at adds b vs 0 (Control c) a.at_control i

  told_over : (m : Mark) → In m c.told_over → Among overs m vs
  told_over m i = among_at overs m vs 0 (Control c) a.at_control i

  told_gone : (m : Mark) → In m c.told_gone → Among gones m vs
  told_gone m i = among_at gones m vs 0 (Control c) a.at_control i

  -- with no seat out, what stands among all was told
  only_told : {A : Type 0} (f : View → List A) (x : A) → ((v : SeatView) (j : ℕ) → get_elem? vs j ≡ some (Seat v) → ⊥) → (f Spent ≡ []) → Among f x vs → In x (f (Control c))
  only_told f x no_seat none m = let r = among_from f x vs m in at r.0 r.1 r.2 r.3
    where
      at : (j : ℕ) (v : View) → get_elem? vs j ≡ some v → In x (f v) → In x (f (Control c))
      at j (Control d) e i = subst (λ (y : View). In x (f y)) (some-injective _ _ (sym e ∙ (ap (get_elem? vs) (a.alone j d e) ∙ a.at_control))) i
      at j (Seat u) e i = absurd (no_seat u j e)
      at j Spent e i = absurd (subst (In x) none i)

  no_seat_out : AllIn c → (v : SeatView) (j : ℕ) → get_elem? vs j ≡ some (Seat v) → ⊥
  no_seat_out all_in v j e = false≢true (sym (all_in (v.number - 1)) ∙ (a.seats j v e).0.number.2)

  counted : (p : Addition → Bool) → AllIn c → count_all p vs ≡ count p c.told
  counted p all_in = told_all (λ b. one (p b)) c ws vs a all_in

  told_few : (p : Addition → Bool) → count_all p vs ≤ 1 → count p c.told ≤ 1
  told_few p few = let t = weigh_at (λ (u : View). weigh (λ b. one (p b)) (adds u)) vs 0 (Control c) a.at_control in omega arith

  sum_here : (k : AssociationNumber) (e : ℕ) → IsOpen c k e → next_of (get_or ws (number_of k) 0) ≡ c.first + count_all (met k e) vs
  sum_here k e o = subst (λ (n : ℕ). next_of (get_or ws (number_of k) 0) ≡ c.first + count_all (met k n) vs) o.1 (a.sums.sum k (a.settled.open_some k o.0))

  bound_here : (k : AssociationNumber) (e : ℕ) → IsOpen c k e → next_of (get_or ws (number_of k) 0) ≤ 2 ^ 32 + count_all (lost k e) vs
  bound_here k e o = subst (λ (n : ℕ). next_of (get_or ws (number_of k) 0) ≤ 2 ^ 32 + count_all (lost k n) vs) o.1 (a.sums.bound k (a.settled.open_some k o.0))

  at_slot : (k : AssociationNumber) (e : ℕ) (j : AssociationNumber) (d n : ℕ) → j ≡ k → d ≡ e → AtLeast c ws j d n → IsOpen c k e → n ≤ next_of (get_or ws (number_of k) 0)
  at_slot k e j d n same_k same_e ok o = (subst (λ (z : AssociationNumber × ℕ). AtLeast c ws z.0 z.1 n) (λ i. (same_k i, same_e i)) ok).now o

  pub is_next : (k : AssociationNumber) (e : ℕ) → IsOpen c k e → IsNext c k e (next_of (get_or ws (number_of k) 0))
  is_next k e o = record {
    above_claims = λ b i is x y. let l = at_slot k e b.an b.met (b.pn + 1) x y ((a.ledger.additions b (told_add b i)).claim is).3 o in omega arith;
    above_loads = λ f i x y. at_slot k e f.an f.epoch f.next x y (a.sums.loads f i).1 o;
    above_over = λ m i x y. let l = at_slot k e m.an m.epoch (2 ^ 32 + 1) x y (a.ledger.over m (told_over m i)).1 o in omega arith;
    is_sum = λ all_in. let s = sum_here k e o in let t = counted (met k e) all_in in omega arith;
    bound = λ all_in. let s = bound_here k e o in let t = counted (lost k e) all_in in omega arith;
  }

  was_next : (f : NextSeen) → In f c.found → WasNext c f
  was_next f i = record {
    above_claims = λ b j is x y. let l = ((a.ledger.additions b (told_add b j)).claim is).3.then f i (sym x) (sym y) in omega arith;
    above_loads = λ g j x y. (a.sums.loads g j).1.then f i (sym x) (sym y);
    above_over = λ m j x y. let l = (a.ledger.over m (told_over m j)).1.then f i (sym x) (sym y) in omega arith;
    low = λ all_in. let s = a.sums.shut_sum f i in let t = counted (met f.an f.epoch) all_in in let u = counted (lost f.an f.epoch) all_in in ((let l = s.0 in omega arith), (let l = s.1 in omega arith));
  }

  is_told : (b : Addition) → In b c.told → IsTold c b
  is_told b i = let m = a.ledger.additions b (told_add b i) in record {
    seat = m.seat;
    raised = m.raised;
    pointed = m.pointed;
    claim = λ is. let k = m.claim is in (k.0, k.1, k.2);
    cause = λ all_in is. ⊎_elim (λ g. inl (only_told gones _ (no_seat_out all_in) refl g)) (λ (o : (b.loaded ≡ b.met) × Among overs (record { seat = b.seat; an = b.an; epoch = b.met }) vs). inr (o.0, only_told overs _ (no_seat_out all_in) refl o.1)) (a.ledger.cause b (told_add b i) is);
  }

  pub learned : Learned c
  learned = record {
    settled = a.settled;
    additions = is_told;
    differ = λ e p. told_few (claimed e p) (a.ledger.differ e p);
    twice = λ q e s. told_few (tagged q e s) (a.ledger.twice q e s);
    open_next = λ k e o. (next_of (get_or ws (number_of k) 0), is_next k e o);
    shut_next = was_next;
    loads = λ f i. (a.sums.loads f i).0;
    over = λ m i. (a.ledger.over m (told_over m i)).2;
    gone = λ m i. a.ledger.gone m (told_gone m i);
    noted = a.told.noted;
    cards = card_known c c.told_reads a.told.reads;
  }

-- what control has learned, when a seat goes out: then not all are in
pub learned_out : (c : ControlView) → free c.out < 8 → Learned c → Learned (seated c)
learned_out c room ok = record {
  settled = settled_out c (set c.out (free c.out) true) c.told c.told_over c.told_gone c.told_notes c.told_reads (length-set c.out (free c.out) true ∙ ok.settled.eight) ok.settled;
  additions = λ b i. let t = ok.additions b i in record { seat = t.seat; raised = t.raised; pointed = t.pointed; claim = t.claim; cause = λ all_in. absurd (one_out all_in) };
  differ = ok.differ;
  twice = ok.twice;
  open_next = λ k e o. let n = ok.open_next k e o in (n.0, record { above_claims = n.1.above_claims; above_loads = n.1.above_loads; above_over = n.1.above_over; is_sum = λ all_in. absurd (one_out all_in); bound = λ all_in. absurd (one_out all_in) });
  shut_next = λ f i. let n = ok.shut_next f i in record { above_claims = n.above_claims; above_loads = n.above_loads; above_over = n.above_over; low = λ all_in. absurd (one_out all_in) };
  loads = ok.loads;
  over = ok.over;
  gone = ok.gone;
  noted = ok.noted;
  cards = ok.cards;
}
  where
    one_out : AllIn (seated c) → ⊥
    one_out all_in = false≢true (sym (all_in (free c.out)) ∙ get_or-set_same c.out (free c.out) true false (let e = ok.settled.eight in omega arith))
