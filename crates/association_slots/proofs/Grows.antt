-- What stays true as the words grow and control goes on.
use Rattle.std.proofs.Common.{◌≡◌, ◌⊎◌, ℕ, zero, suc, ◌+◌, ◌-◌, ◌^◌, ◌<◌, ◌≤◌, Bool, true, false, List, [], ◌∷◌, ◌++◌, length, get_or, set, refl, sym, ap, ◌∙◌, subst, inl, inr, ⊎_elim, arith, length-append, get_or-set_other}
use Rattle.std.proofs.lemmas.Bool.{false≢true, eqb-true, and_parts, cases_Bool}
use Rattle.lan_base.specs.AssociationNumbers.{number_of}
use Rattle.lan_base.specs.declared.association_number.AssociationNumber.{AssociationNumber}
use Rattle.lan_base.proofs.Public.{number_of-few}
use Rattle.association_slots.specs.Words.{next_of}
use Rattle.association_slots.specs.Views.{In, Among, slot, current, newest, present_at, IsOpen, WasAbsent, WasShut, top, overs, tally, one, met, lost}
use Rattle.association_slots.specs.Steps.{wrote, raised, closed, pointed, looked, loaded}
use Rattle.association_slots.specs.Rule.{Settled, AtLeast, IsAddition, Fits, Follows, Ledger, Sums, ToldFits}
use Rattle.association_slots.specs.declared.view.Current.{Current}
use Rattle.association_slots.specs.declared.view.NextSeen.{NextSeen}
use Rattle.association_slots.specs.declared.view.Addition.{Addition}
use Rattle.association_slots.specs.declared.view.Mark.{Mark}
use Rattle.association_slots.specs.declared.view.ControlView.{ControlView}
use Rattle.association_slots.specs.declared.view.SeatView.{SeatView}
use Rattle.association_slots.specs.declared.view.View.{View}
use Rattle.association_slots.specs.declared.view.SlotView.{SlotView}
use Rattle.association_slots.proofs.Lists.{Moved, tally_none, in_cons_if}
use Rattle.association_slots.proofs.StaysSettled.{slot_set}

-- How words and control's view may grow in a step
pub record Grown (c : ControlView) (ws : List ℕ) (d : ControlView) (us : List ℕ) : Type 0 where
  pub first : d.first ≡ c.first
  pub limit : d.limit ≡ c.limit
  pub epochs : (j : AssociationNumber) → (slot c j).epoch ≤ (slot d j).epoch
  pub raises : (r : AssociationNumber × ℕ) → In r c.raises → In r d.raises
  pub points : (p : Current) → In p c.points → In p d.points
  pub found : (f : NextSeen) → In f c.found → In f d.found
  pub cards : (j : ℕ) → j < length c.card_words → (j < length d.card_words) × (get_or d.card_words j 0 ≡ get_or c.card_words j 0)
  pub least : (k : AssociationNumber) (e n : ℕ) → In (k, e) c.raises → AtLeast c ws k e n → AtLeast d us k e n

pub at_most : (c : ControlView) (ws : List ℕ) (k : AssociationNumber) (e n m : ℕ) → m ≤ n → AtLeast c ws k e n → AtLeast c ws k e m
at_most c ws k e n m l ok = record { now = λ o. let z = ok.now o in omega arith; then = λ f i a b. let z = ok.then f i a b in omega arith }

module _ (c : ControlView) (ws : List ℕ) (d : ControlView) (us : List ℕ) (g : Grown c ws d us) where
  pub shut_grows : (k : AssociationNumber) (e : ℕ) → WasShut c k e → WasShut d k e
  shut_grows k e s = (s.0, g.found s.0 s.1, s.2, s.3)

  pub member_grows : (a : Addition) → IsAddition c ws a → IsAddition d us a
  member_grows a ok = record {
    seat = ok.seat;
    order = let o = ok.order in let e = g.epochs a.an in (o.0, o.1, omega (arith, o.2));
    raised = g.raises _ ok.raised;
    pointed = g.points _ ok.pointed;
    claim = λ w. let x = ok.claim w in (x.0, (let f = g.first in let y = x.1 in omega arith), x.2, g.least a.an a.met (a.pn + 1) ok.raised x.3);
  }

  pub ledger_grows : (vs xs : List View) → Moved vs xs → Ledger c ws vs → Ledger d us xs
  ledger_grows vs xs m ok = record {
    additions = λ a i. member_grows a (ok.additions a (m.adds_back a i));
    over = λ x i. let o = ok.over x (m.overs_back x i) in (g.raises _ o.0, g.least _ _ _ o.0 o.1, g.points _ o.2);
    gone = λ x i. let o = ok.gone x (m.gones_back x i) in (shut_grows _ _ o.0, g.points _ o.1);
    cause = λ a i w. ⊎_elim (λ o. inl (m.gones_on _ o)) (λ (o : (a.loaded ≡ a.met) × Among overs (record { seat = a.seat; an = a.an; epoch = a.met }) vs). inr (o.0, m.overs_on _ o.1)) (ok.cause a (m.adds_back a i) w);
    differ = λ e p. subst (λ (n : ℕ). n ≤ 1) (sym (m.tallies _)) (ok.differ e p);
    twice = λ q e s. subst (λ (n : ℕ). n ≤ 1) (sym (m.tallies _)) (ok.twice q e s);
  }

  reads_grow : (rs : List (ℕ × ℕ)) → ((r : ℕ × ℕ) → In r rs → (i : ℕ) × (r.0 ≡ 5 + i) × (i < length c.card_words) × (get_or c.card_words i 0 ≡ r.1)) → (r : ℕ × ℕ) → In r rs → (i : ℕ) × (r.0 ≡ 5 + i) × (i < length d.card_words) × (get_or d.card_words i 0 ≡ r.1)
  reads_grow rs ok r i = let o = ok r i in let w = g.cards o.0 o.2 in (o.0, o.1, w.0, w.1 ∙ o.3)

  pub told_grows : d.points ≡ c.points → d.told_notes ≡ c.told_notes → d.told_reads ≡ c.told_reads → ToldFits c → ToldFits d
  told_grows same notes reads ok = record {
    noted = λ e i. subst (λ (ps : List Current). WasAbsent ps e) (sym same) (ok.noted e (subst (In e) notes i));
    reads = λ r i. reads_grow c.told_reads ok.reads r (subst (In r) reads i);
  }

  -- the points stay
  pub seat_grows : Settled c → (v : SeatView) → d.points ≡ c.points → (get_or c.out (v.number - 1) false ≡ true → get_or d.out (v.number - 1) false ≡ true) → Fits c ws v → Fits d us v
  seat_grows settled v same out ok = record {
    number = let n = ok.number in (n.0, n.1, out n.2);
    own = ok.own;
    own_over = ok.own_over;
    own_gone = ok.own_gone;
    limit = ok.limit ∙ sym g.limit;
    low = subst (λ (ps : List Current). v.shown.epoch ≤ (newest ps).epoch) (sym same) ok.low;
    shown = λ p. let s = ok.shown p in let e = g.epochs v.shown.an in (subst (In v.shown) (sym same) s.0, omega (arith, s.1));
    loaded = λ p i. let o = ok.loaded p i in let e = g.epochs p.an in (o.0, g.points _ o.1, omega (arith, o.2));
    noted = subst (λ (ps : List Current). (e : ℕ) → In e v.notes → WasAbsent ps e) (sym same) ok.noted;
    start = subst (λ (ps : List Current). (v.start.last ≤ (newest ps).epoch) × (v.start.present ≡ false → (newest ps).present ≡ true → v.start.last < (newest ps).epoch)) (sym same) ok.start;
    given = λ f i. let o = ok.given f i in (g.points _ o.0, o.1, g.least _ _ _ ((settled.points_low _ o.0).1 refl) o.2);
    claims_rise = ok.claims_rise;
    not_below = ok.not_below;
    reads = reads_grow v.reads ok.reads;
  }

  -- the sums, where the additions stay: a slot's epoch and next stay, or the epoch is new
  pub sums_grow : (vs xs : List View) → Settled c → Ledger c ws vs → Moved vs xs
      → ((j : AssociationNumber) → 0 < (slot d j).epoch → (((slot c j).epoch ≡ (slot d j).epoch) × (next_of (get_or us (number_of j) 0) ≡ next_of (get_or ws (number_of j) 0))) ⊎ ((next_of (get_or us (number_of j) 0) ≡ c.first) × (top c.raises < (slot d j).epoch)))
      → ((f : NextSeen) → In f d.found → In f c.found ⊎ ((0 < f.epoch) × ((slot c f.an).epoch ≡ f.epoch) × (f.next ≡ next_of (get_or ws (number_of f.an) 0))))
      → ((f : NextSeen) → In f d.loads → In f c.loads ⊎ (In (f.an, f.epoch) d.raises × AtLeast d us f.an f.epoch f.next))
      → Sums c ws vs → Sums d us xs
  sums_grow vs xs settled ledger m slots found loads ok = record {
    sum = λ j z. ⊎_elim (λ t. let s = sum_at j (slot d j).epoch t.0 z in let f = g.first in let x = t.1 in let y = m.tallies (λ a. one (met j (slot d j).epoch a)) in omega arith)
        (λ t. let x = t.0 in let f = g.first in let y = m.tallies (λ a. one (met j (slot d j).epoch a)) in let w = new_epoch j (slot d j).epoch t.1 in omega arith) (slots j z);
    bound = λ j z. ⊎_elim (λ t. let s = bound_at j (slot d j).epoch t.0 z in let x = t.1 in let y = m.tallies (λ a. one (lost j (slot d j).epoch a)) in omega arith)
        (λ t. let x = t.0 in let f = settled.first_small.1 in omega arith) (slots j z);
    shut_sum = λ f i. let y = m.tallies (λ a. one (met f.an f.epoch a)) in let z = m.tallies (λ a. one (lost f.an f.epoch a)) in let e = g.first in
        ⊎_elim (λ a. let o = ok.shut_sum f a in let p = o.0 in let q = o.1 in (omega arith, omega arith))
        (λ t. let s = sum_at f.an f.epoch t.1 t.0 in let b = bound_at f.an f.epoch t.1 t.0 in let n = t.2 in (omega arith, omega arith)) (found f i);
    loads = λ f i. ⊎_elim (λ a. let o = ok.loads f a in (g.raises _ o.0, g.least _ _ _ o.0 o.1)) (λ t. t) (loads f i);
  }
    where
      sum_at : (j : AssociationNumber) (e : ℕ) → (slot c j).epoch ≡ e → 0 < e → next_of (get_or ws (number_of j) 0) ≡ c.first + tally (λ a. one (met j e a)) vs
      sum_at j e is z = subst (λ (n : ℕ). next_of (get_or ws (number_of j) 0) ≡ c.first + tally (λ a. one (met j n a)) vs) is (ok.sum j (omega arith))

      bound_at : (j : AssociationNumber) (e : ℕ) → (slot c j).epoch ≡ e → 0 < e → next_of (get_or ws (number_of j) 0) ≤ 2 ^ 32 + tally (λ a. one (lost j e a)) vs
      bound_at j e is z = subst (λ (n : ℕ). next_of (get_or ws (number_of j) 0) ≤ 2 ^ 32 + tally (λ a. one (lost j n a)) vs) is (ok.bound j (omega arith))

      new_epoch : (j : AssociationNumber) (e : ℕ) → top c.raises < e → tally (λ a. one (met j e a)) vs ≡ 0
      new_epoch j e above = tally_none (λ a. one (met j e a)) vs (λ a i. ⊎_elim
          (λ t. let low = (settled.raised_once _ (ledger.additions a i).raised).1 in let is = eqb-true a.met e (and_parts _ _ t).1 in absurd (omega arith))
          (λ f. ap one f) (cases_Bool (met j e a)))

-- a seat's view, where the points grow
pub seat_pointed : (c : ControlView) (ws us : List ℕ) (p : Current) (v : SeatView) → Grown c ws (pointed c p) us → Settled c → (current c).epoch ≤ p.epoch → (p.present ≡ true → (current c).epoch < p.epoch) → Fits c ws v → Fits (pointed c p) us v
seat_pointed c ws us p v g settled later above ok = record {
  number = ok.number;
  own = ok.own;
  own_over = ok.own_over;
  own_gone = ok.own_gone;
  limit = ok.limit;
  low = let m = ok.low in omega arith;
  shown = λ q. let s = ok.shown q in (inr s.0, s.1);
  loaded = λ q i. let o = ok.loaded q i in (o.0, inr o.1, o.2);
  noted = λ e i. inr (ok.noted e i);
  start = let m = ok.start.0 in (omega arith, λ _ q. let a = above q in omega arith);
  given = λ f i. let o = ok.given f i in (inr o.0, o.1, g.least _ _ _ ((settled.points_low _ o.0).1 refl) o.2);
  claims_rise = ok.claims_rise;
  not_below = ok.not_below;
  reads = ok.reads;
}

newest_in : (ps : List Current) → (newest ps).present ≡ true → In (newest ps) ps
newest_in [] p = absurd (false≢true p)
newest_in (p ∷ ps) _ = inl refl

newest_absent : (ps : List Current) → (newest ps).present ≡ false → WasAbsent ps (newest ps).epoch
newest_absent [] p = refl
newest_absent (p ∷ ps) is = inl (is, refl)

pub not_true : (b : Bool) → Rattle.std.specs.Prelude.not b ≡ true → b ≡ false
not_true true e = absurd (false≢true e)
not_true false e = refl

pub is_present : (p : Current) → p.present ≡ true → p ≡ present_at p.an p.epoch
is_present p is = λ i. record { epoch = p.epoch; present = is i; an = p.an }

-- what a seat knows that has loaded the current word
pub seat_loaded : (c : ControlView) (ws : List ℕ) (v : SeatView) (p : Current) → p ≡ current c → Settled c → Fits c ws v → Fits c ws (loaded v p)
seat_loaded c ws v p is settled ok = record {
  number = ok.number;
  own = ok.own;
  own_over = ok.own_over;
  own_gone = ok.own_gone;
  limit = ok.limit;
  low = omega (arith, epoch);
  shown = λ q. (in_points q, not_above q);
  loaded = λ q i. ⊎_elim (λ (t : (p.present ≡ true) × (p ≡ q)). subst (λ (r : Current). (r.present ≡ true) × In r c.points × (r.epoch ≤ (slot c r.an).epoch)) t.1 (t.0, in_points t.0, not_above t.0)) (ok.loaded q) (in_cons_if _ _ q v.loaded i);
  noted = λ e i. ⊎_elim (λ (t : (_ ≡ true) × (p.epoch ≡ e)). subst (WasAbsent c.points) (sym epoch ∙ t.1) (newest_absent c.points (present ∙ not_true _ t.0))) (ok.noted e) (in_cons_if _ _ e v.notes i);
  start = ok.start;
  given = ok.given;
  claims_rise = ok.claims_rise;
  not_below = ok.not_below;
  reads = ok.reads;
}
  where
    epoch : p.epoch ≡ (current c).epoch
    epoch = ap (λ (q : Current). q.epoch) is

    present : (current c).present ≡ p.present
    present = sym (ap (λ (q : Current). q.present) is)

    not_above : p.present ≡ true → p.epoch ≤ (slot c p.an).epoch
    not_above q = let names = settled.names_open (present ∙ q) in subst (λ (r : Current). r.epoch ≤ (slot c r.an).epoch) (sym is) (let n = names.1 in omega arith)

    in_points : p.present ≡ true → In p c.points
    in_points q = subst (λ (q : Current). In q c.points) (sym is) (newest_in c.points (present ∙ q))

pub follows_moved : (vs xs : List View) (v : SeatView) → Moved vs xs → Follows vs v → Follows xs v
follows_moved vs xs v m ok = record {
  inherits = λ x i e. ok.inherits x (m.overs_back x i) e;
  not_yet = λ p n a i q w s o t. ok.not_yet p n a (m.adds_back a i) q w s o t;
  not_later = λ p n a i q s. ok.not_later p n a (m.adds_back a i) q s;
  not_gone = λ p n x i. ok.not_gone p n x (m.gones_back x i);
}

-- a seat that has just loaded a present word may add
pub follows_loaded : (c : ControlView) (ws : List ℕ) (vs : List View) (v : SeatView) (p : Current) → p ≡ current c → Settled c → Ledger c ws vs → Follows vs v → Follows vs (loaded v p)
follows_loaded c ws vs v p is settled ledger ok = record {
  inherits = ok.inherits;
  not_yet = λ q _ a i seat lost an_is loaded_is met_is.
      let n = names q in
      ⊎_elim (λ g. let s = (ledger.gone _ g).0 in absurd (settled.found_gone p.an n.0 s.0 s.1 (s.3 ∙ (loaded_is ∙ sym n.1))))
      (λ (o : (a.loaded ≡ a.met) × Among overs (record { seat = a.seat; an = a.an; epoch = a.met }) vs). ok.inherits _ (subst (λ (z : Mark). Among overs z vs) (the_mark a seat an_is met_is) o.1) refl)
      (ledger.cause a i lost);
  not_later = λ q _ a i seat an_is. let n = names q in let o = (ledger.additions a i).order.2 in let e : (slot c a.an).epoch ≡ p.epoch = ap (λ (k : AssociationNumber). (slot c k).epoch) an_is ∙ n.1 in omega arith;
  not_gone = λ q _ m i _ same. let n = names q in let s = (ledger.gone m i).0 in settled.found_gone p.an n.0 s.0 s.1 (s.3 ∙ (same ∙ sym n.1));
}
  where
    names : p.present ≡ true → IsOpen c p.an p.epoch
    names q = subst (λ (x : Current). IsOpen c x.an x.epoch) (sym is) (settled.names_open (sym (ap (λ (x : Current). x.present) is) ∙ q))

    the_mark : (a : Addition) → a.seat ≡ v.number → a.an ≡ p.an → a.met ≡ p.epoch → let m : Mark = record { seat = a.seat; an = a.an; epoch = a.met } in let n : Mark = record { seat = v.number; an = p.an; epoch = p.epoch } in m ≡ n
    the_mark a x y z = λ i. let m : Mark = record { seat = x i; an = y i; epoch = z i } in m

-- How each step of control grows

pub grown_words : (c : ControlView) (ws us : List ℕ) → ((j : AssociationNumber) → next_of (get_or ws (number_of j) 0) ≤ next_of (get_or us (number_of j) 0)) → Grown c ws c us
grown_words c ws us grows = record {
  first = refl;
  limit = refl;
  epochs = λ j. omega arith;
  raises = λ r i. i;
  points = λ p i. i;
  found = λ f i. i;
  cards = λ j l. (l, refl);
  least = λ k e n _ ok. record { now = λ o. let a = ok.now o in let b = grows k in omega arith; then = ok.then };
}

pub grown_raised : (c : ControlView) (ws : List ℕ) (k : AssociationNumber) (e n : ℕ) → top c.raises < e → Settled c → Grown c ws (raised c k e) (set ws (number_of k) n)
grown_raised c ws k e n above ok = record {
  first = refl;
  limit = refl;
  epochs = slot_set (λ j y. (slot c j).epoch ≤ y.epoch) c.slots k x long (let l = ok.slot_low k in omega arith) (λ j _. omega arith);
  raises = λ r i. inr i;
  points = λ p i. i;
  found = λ f i. i;
  cards = λ j l. (l, refl);
  least = λ j q m was at. record {
    now = λ open_. slot_set (λ i y. AtLeast c ws i q m → In (i, q) c.raises → y.shut ≡ false → y.epoch ≡ q → m ≤ next_of (get_or (set ws (number_of k) n) (number_of i) 0)) c.slots k x long
        (λ _ r _ same. let z = (ok.raised_once _ r).1 in absurd (omega arith)) (λ i ne a _ o s. subst (λ (w : ℕ). m ≤ next_of w) (sym (get_or-set_other ws (number_of k) (number_of i) n 0 ne)) (a.now (o, s))) j at was open_.0 open_.1;
    then = at.then;
  };
}
  where
    x : SlotView
    x = record { epoch = e; shut = false; seen = c.first }

    long : number_of k < length c.slots
    long = let f = ok.four in let few = number_of-few k in omega arith

pub grown_closed : (c : ControlView) (ws : List ℕ) (k : AssociationNumber) (n : ℕ) → (slot c k).shut ≡ false → Settled c → Grown c ws (closed c k (next_of (get_or ws (number_of k) 0))) (set ws (number_of k) n)
grown_closed c ws k n opened ok = record {
  first = refl;
  limit = refl;
  epochs = slot_set (λ j y. (slot c j).epoch ≤ y.epoch) c.slots k x long (omega arith) (λ j _. omega arith);
  raises = λ r i. i;
  points = λ p i. i;
  found = λ f i. inr i;
  cards = λ j l. (l, refl);
  least = λ j q m was at. record {
    now = λ open_. slot_set (λ i y. AtLeast c ws i q m → y.shut ≡ false → y.epoch ≡ q → m ≤ next_of (get_or (set ws (number_of k) n) (number_of i) 0)) c.slots k x long
        (λ _ o _. absurd (false≢true (sym o))) (λ i ne a o s. subst (λ (w : ℕ). m ≤ next_of w) (sym (get_or-set_other ws (number_of k) (number_of i) n 0 ne)) (a.now (o, s))) j at open_.0 open_.1;
    then = λ f i a b. ⊎_elim (λ is. let here : k ≡ j = ap (λ (z : NextSeen). z.an) is ∙ a in let ep : (slot c k).epoch ≡ q = ap (λ (z : NextSeen). z.epoch) is ∙ b in
        subst (λ (z : ℕ). m ≤ z) (ap (λ (z : NextSeen). z.next) is) ((subst (λ (z : AssociationNumber). AtLeast c ws z q m) (sym here) at).now (opened, ep))) (λ old. at.then f old a b) i;
  };
}
  where
    x : SlotView
    x = record { epoch = (slot c k).epoch; shut = true; seen = next_of (get_or ws (number_of k) 0) }

    long : number_of k < length c.slots
    long = let f = ok.four in let few = number_of-few k in omega arith

pub grown_looked : (c : ControlView) (ws : List ℕ) (k : AssociationNumber) (m : ℕ) → Settled c → Grown c ws (looked c k m) ws
grown_looked c ws k m ok = record {
  first = refl;
  limit = refl;
  epochs = slot_set (λ j y. (slot c j).epoch ≤ y.epoch) c.slots k x long (omega arith) (λ j _. omega arith);
  raises = λ r i. i;
  points = λ p i. i;
  found = λ f i. i;
  cards = λ j l. (l, refl);
  least = λ j q n was at. record {
    now = λ open_. slot_set (λ i y. AtLeast c ws i q n → y.shut ≡ false → y.epoch ≡ q → n ≤ next_of (get_or ws (number_of i) 0)) c.slots k x long (λ a o s. a.now (o, s)) (λ i _ a o s. a.now (o, s)) j at open_.0 open_.1;
    then = at.then;
  };
}
  where
    x : SlotView
    x = record { epoch = (slot c k).epoch; shut = (slot c k).shut; seen = m }

    long : number_of k < length c.slots
    long = let f = ok.four in let few = number_of-few k in omega arith

pub grown_pointed : (c : ControlView) (ws : List ℕ) (p : Current) (n : ℕ) → Grown c ws (pointed c p) (set ws 4 n)
grown_pointed c ws p n = record {
  first = refl;
  limit = refl;
  epochs = λ j. omega arith;
  raises = λ r i. i;
  points = λ q i. inr i;
  found = λ f i. i;
  cards = λ j l. (l, refl);
  least = λ k e m _ ok. record { now = λ o. let few = number_of-few k in subst (λ (w : ℕ). m ≤ next_of w) (sym (get_or-set_other ws 4 (number_of k) n 0 (λ z. omega arith))) (ok.now o); then = ok.then };
}

pub grown_out : (c : ControlView) (ws : List ℕ) (out : List Bool) (told : List Addition) (over gone : List Mark) (notes : List ℕ) (reads : List (ℕ × ℕ)) → Grown c ws (record c { out = out; told = told; told_over = over; told_gone = gone; told_notes = notes; told_reads = reads }) ws
grown_out c ws out told over gone notes reads = record { first = refl; limit = refl; epochs = λ j. omega arith; raises = λ r i. i; points = λ p i. i; found = λ f i. i; cards = λ j l. (l, refl); least = λ k e n _ ok. record { now = ok.now; then = ok.then } }

pub in_front : (xs ys : List ℕ) (j : ℕ) → j < length xs → get_or (xs ++ ys) j 0 ≡ get_or xs j 0
in_front [] ys j l = absurd (omega arith)
in_front (x ∷ xs) ys zero l = refl
in_front (x ∷ xs) ys (suc j) l = in_front xs ys j (omega arith)

pub grown_wrote : (c : ControlView) (ws : List ℕ) (i x : ℕ) → 4 < i → Grown c ws (wrote c x) (set ws i x)
grown_wrote c ws i x high = record {
  first = refl;
  limit = refl;
  epochs = λ j. omega arith;
  raises = λ r i. i;
  points = λ p i. i;
  found = λ f i. i;
  cards = λ j l. ((let e = length-append c.card_words (x ∷ []) in omega arith), in_front c.card_words (x ∷ []) j l);
  least = λ k e b _ ok. record { now = λ o. let few = number_of-few k in subst (λ (w : ℕ). b ≤ next_of w) (sym (get_or-set_other ws i (number_of k) x 0 (λ y. omega arith))) (ok.now o); then = ok.then };
}
