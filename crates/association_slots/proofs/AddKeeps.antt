-- A seat adds one to the slot that it was shown, and the rule is kept.
use Rattle.std.proofs.Common.{◌≡◌, ◌≢◌, ◌⊎◌, ℕ, zero, suc, ◌+◌, ◌%◌, ◌^◌, ◌<◌, ◌≤◌, Bool, true, false, not, ◌&&◌, ◌==◌, ltb, eqb, List, [], ◌∷◌, ◌++◌, length, get_or, set, refl, sym, ap, ◌∙◌, subst, inl, inr, ⊎_elim, arith, eq-eqb, ne_eqb, get_or-set_other, get_or-set_same}
use mathlib.Core.Logic.{dite}
use mathlib.Core.Option.{none, some, some-ne-none}
use native.Mathlib.Decide.{ℕ_discrete}
use lib.ListN.{get_elem?}
use Rattle.std.proofs.lemmas.Bool.{false≢true, eqb-true, eqb-false, ltb-true, ltb-false, and_parts, and_from, and_cases, cases_Bool, cases_lt, cond-true, cond-false}
use Rattle.atomic_table.specs.Table.{step, keeps, Allows}
use Rattle.atomic_table.proofs.Lists.{at_set, set_here}
use Rattle.lan_base.specs.AssociationNumbers.{number_of}
use Rattle.lan_base.specs.declared.association_number.AssociationNumber.{AssociationNumber}
use Rattle.lan_base.proofs.Public.{number_of-few}
use Rattle.association_slots.specs.Words.{epoch_of, flag_of, next_of}
use Rattle.association_slots.specs.Views.{In, Among, slot, present_at, WasShut, weigh, adds, overs, gones, tally, one, met, lost, claimed, mark, seat_of}
use Rattle.association_slots.specs.Steps.{addition, answer, added}
use Rattle.association_slots.specs.Rule.{AtLeast, IsAddition, Fits, Follows, Ledger, Sums, Around, Slotted, tagged, agrees}
use Rattle.association_slots.specs.Told.{Gives, IsAdded, IsAboveClaims}
use Rattle.association_slots.specs.inside.Plays.{Adds}
use Rattle.association_slots.specs.declared.view.Current.{Current}
use Rattle.association_slots.specs.declared.view.NextSeen.{NextSeen}
use Rattle.association_slots.specs.declared.view.Addition.{Addition}
use Rattle.association_slots.specs.declared.view.Mark.{Mark}
use Rattle.association_slots.specs.declared.view.Added.{Added}
use Rattle.association_slots.specs.declared.view.Added.TheVariants.{Gone}
use Rattle.association_slots.specs.declared.view.ControlView.{ControlView}
use Rattle.association_slots.specs.declared.view.SeatView.{SeatView}
use Rattle.association_slots.specs.declared.view.View.{View}
use Rattle.association_slots.specs.declared.view.View.TheVariants.{Seat}
use Rattle.association_slots.proofs.SlotNumbers.{same_or_apart}
use Rattle.association_slots.proofs.WordParts.{added_epoch, added_flag, added_next}
use Rattle.association_slots.proofs.Lists.{in_append, in_left, in_right, weigh-set, among_at, among_set, among_on, tally_none}
use Rattle.association_slots.proofs.StaysSettled.{words_added, cards_else, once}
use Rattle.association_slots.proofs.Grows.{Grown, grown_words, member_grows, seat_grows, not_true, is_present}
use Rattle.association_slots.proofs.ControlKeeps.{M, wide, numbers_from, seat_back, control_else, alone_else}
use Rattle.association_slots.proofs.Sixteen.{sixteen}

-- The view of a seat that has made the addition x, with the marks os and gs
abbrev after : SeatView → Addition → List Mark → List Mark → SeatView
after v x os gs = record v { added = true; additions = x ∷ v.additions; over = os ++ v.over; gone = gs ++ v.gone }

-- what a seat may do: it has loaded a present word, has not added since, and the epoch is not one that it overshot
record May (v : SeatView) : Type 0 where
  present : v.shown.present ≡ true
  waits : v.added ≡ false
  free : In (mark v) v.over → ⊥

-- what an addition is, at the word found
record Fair (c : ControlView) (v : SeatView) (w : ℕ) (won : Bool) (got : ℕ) (os gs : List Mark) : Type 0 where
  wins : won ≡ true → (flag_of w ≡ false) × (epoch_of w ≡ v.shown.epoch) × (got ≡ next_of w) × (next_of w < 2 ^ 32)
  fills : (m : Mark) → In m os → (m ≡ mark v) × (flag_of w ≡ false) × (epoch_of w ≡ v.shown.epoch) × (2 ^ 32 ≤ next_of w)
  goes : (m : Mark) → In m gs → (m ≡ mark v) × WasShut c v.shown.an v.shown.epoch
  says : won ≡ false → In (mark v) gs ⊎ ((epoch_of w ≡ v.shown.epoch) × In (mark v) os)

module _ (c : ControlView) (ws : List ℕ) (vs : List View) (a : Around c ws vs) (id : ℕ) (v : SeatView) (at : get_elem? vs id ≡ some (Seat v)) (may : May v) (fits : get_or ws (number_of v.shown.an) 0 < 2 ^ 64) where
  abbrev an : AssociationNumber
  an = v.shown.an

  abbrev e : ℕ
  e = v.shown.epoch

  abbrev w : ℕ
  w = get_or ws (number_of v.shown.an) 0

  abbrev us : List ℕ
  us = set ws (number_of v.shown.an) ((get_or ws (number_of v.shown.an) 0 + 1) % 2 ^ 64)

  mine : Fits c ws v
  mine = (a.seats id v at).0

  waiting : Follows vs v
  waiting = (a.seats id v at).1

  saw : In v.shown c.points × (e ≤ (slot c an).epoch)
  saw = mine.shown may.present

  loaded_raised : In (an, e) c.raises
  loaded_raised = (a.settled.points_low v.shown saw.0).1 may.present

  some_epoch : 0 < e
  some_epoch = (a.settled.raised_once _ loaded_raised).0

  here : epoch_of w ≡ (slot c an).epoch
  here = a.words.epochs an

  is_raised : In (an, epoch_of w) c.raises
  is_raised = subst (λ (n : ℕ). In (an, n) c.raises) (sym here) (a.settled.slot_raised an (let s = saw.1 in let z = some_epoch in omega arith))

  above : 0 < (slot c an).epoch
  above = let s = saw.1 in let z = some_epoch in omega arith

  room : next_of w + 1 < 2 ^ 39
  room = let b = a.sums.bound an above in let s = sixteen c ws vs an (slot c an).epoch a.ledger in omega arith

  next : next_of (get_or us (number_of an) 0) ≡ next_of w + 1
  next = let l = wide c ws vs a in let few = number_of-few an in ap next_of (get_or-set_same ws (number_of an) ((w + 1) % 2 ^ 64) 0 (omega arith)) ∙ added_next w fits room

  others : (j : AssociationNumber) → number_of j ≢ number_of an → get_or us (number_of j) 0 ≡ get_or ws (number_of j) 0
  others j ne = get_or-set_other ws (number_of an) (number_of j) ((w + 1) % 2 ^ 64) 0 ne

  grows : Grown c ws c us
  grows = grown_words c ws us (λ j. ⊎_elim (λ is. let n = next in subst (λ (i : AssociationNumber). next_of (get_or ws (number_of i) 0) ≤ next_of (get_or us (number_of i) 0)) (sym is) (omega arith)) (λ ne. let o = ap next_of (others j ne) in omega arith) (same_or_apart j an))

  -- an addition that met this word's epoch stands on this slot
  same_slot : (b : Addition) → Among adds b vs → b.met ≡ epoch_of w → b.an ≡ an
  same_slot b i is = once c.raises a.settled.rise (b.an, b.met) (an, epoch_of w) (a.ledger.additions b i).raised is_raised is

  open_here : flag_of w ≡ false → (slot c an).shut ≡ false
  open_here f = sym (a.words.shuts an) ∙ f

  -- a number of an open word is above all that the seat claimed of its epoch
  above_own : flag_of w ≡ false → epoch_of w ≡ e → IsAboveClaims v v.shown.epoch (next_of w)
  above_own flag same = (
    let n = a.sums.sum an above in let f = a.settled.first_small.0 in omega arith,
    λ b i bw bm.
        let m = among_at adds b vs id (Seat v) at i in let on = same_slot b m (bm ∙ sym same) in
        let low = ((a.ledger.additions b m).claim bw).3.now (ap (λ (k : AssociationNumber). (slot c k).shut) on ∙ open_here flag, ap (λ (k : AssociationNumber). (slot c k).epoch) on ∙ (sym here ∙ (same ∙ sym bm))) in
        let there = subst (λ (k : AssociationNumber). b.pn + 1 ≤ next_of (get_or ws (number_of k) 0)) on low in omega arith,
  )

  not_earlier : e ≤ epoch_of w
  not_earlier = let s = saw.1 in let h = here in omega arith

  module _ (won : Bool) (got : ℕ) (os gs : List Mark) (fair : Fair c v w won got os gs) where
    abbrev x : Addition
    x = addition v (epoch_of (get_or ws (number_of v.shown.an) 0)) won got

    abbrev v' : SeatView
    v' = after v (addition v (epoch_of (get_or ws (number_of v.shown.an) 0)) won got) os gs

    abbrev xs : List View
    xs = set vs id (Seat (after v (addition v (epoch_of (get_or ws (number_of v.shown.an) 0)) won got) os gs))

    tallies : (h : Addition → ℕ) → tally h xs ≡ tally h vs + h x
    tallies h = let s = weigh-set (λ (u : View). weigh h (adds u)) vs id (Seat v) (Seat v') at in omega arith

    came : (b : Addition) → Among adds b xs → (x ≡ b) ⊎ Among adds b vs
    came b i = ⊎_elim (λ j. ⊎_elim inl (λ k. inr (among_at adds b vs id (Seat v) at k)) j) inr (among_set adds b vs id (Seat v') i)

    long : id < length vs
    long = some_at vs id (Seat v) at
      where
        some_at : (ys : List View) (i : ℕ) (y : View) → get_elem? ys i ≡ some y → i < length ys
        some_at [] i y e = absurd (mathlib.Core.Option.some-ne-none y (sym e))
        some_at (z ∷ zs) zero y e = omega arith
        some_at (z ∷ zs) (suc i) y e = let r = some_at zs i y e in omega arith

    new_here : get_elem? xs id ≡ some (Seat v')
    new_here = set_here vs id (Seat v') long

    claim_at : won ≡ true → AtLeast c us an (epoch_of w) (got + 1)
    claim_at is = let f = fair.wins is in record {
      now = λ _. let n = next in let g = f.2 in omega arith;
      then = λ q i s t. absurd (a.settled.found_gone an (open_here f.0) q i (t ∙ here));
    }

    member : IsAddition c us x
    member = record {
      seat = (mine.number.0, mine.number.1);
      order = let s = saw.1 in let h = here in (some_epoch, omega arith, omega arith);
      raised = is_raised;
      pointed = subst (λ (p : Current). In p c.points) (is_present v.shown may.present) saw.0;
      claim = λ is. let f = fair.wins is in let s = a.sums.sum an above in let g = f.2 in (sym f.1, omega arith, (let z = f.3 in omega arith), claim_at is);
    }

    marked : (m : Mark) → In m os → In (m.an, m.epoch) c.raises × AtLeast c us m.an m.epoch (2 ^ 32 + 1) × In (present_at m.an m.epoch) c.points
    marked m i = let f = fair.fills m i in subst (λ (y : Mark). In (y.an, y.epoch) c.raises × AtLeast c us y.an y.epoch (2 ^ 32 + 1) × In (present_at y.an y.epoch) c.points) (sym f.0) (
      loaded_raised,
      record {
        now = λ _. let n = next in let z = f.3 in omega arith;
        then = λ q j s t. absurd (a.settled.found_gone an (open_here f.1) q j (t ∙ (sym f.2 ∙ here)));
      },
      member.pointed,
    )

    one_claim : (q p : ℕ) → tally (λ b. one (claimed q p b)) xs ≤ 1
    one_claim q p = let t = tallies (λ b. one (claimed q p b)) in ⊎_elim
        (λ is. let mine = and_parts _ _ is in let won_is = mine.0 in let at_q = eqb-true (epoch_of w) q (and_parts _ _ mine.1).0 in let got_p = eqb-true got p (and_parts _ _ mine.1).1 in let f = fair.wins won_is in
        let none_yet : tally (λ b. one (claimed q p b)) vs ≡ 0 = tally_none (λ b. one (claimed q p b)) vs (λ b i. ⊎_elim
        (λ has_it. let hers = and_parts _ _ has_it in let met_q = eqb-true b.met q (and_parts _ _ hers.1).0 in let got_q = eqb-true b.pn p (and_parts _ _ hers.1).1 in let on = same_slot b i (met_q ∙ sym at_q) in
        let low = ((a.ledger.additions b i).claim hers.0).3.now (ap (λ (k : AssociationNumber). (slot c k).shut) on ∙ open_here f.0, ap (λ (k : AssociationNumber). (slot c k).epoch) on ∙ (sym here ∙ (at_q ∙ sym met_q))) in
        let at_an : next_of (get_or ws (number_of b.an) 0) ≡ next_of w = ap (λ (k : AssociationNumber). next_of (get_or ws (number_of k) 0)) on in let g = f.2 in absurd (omega arith))
        (λ z. ap one z) (cases_Bool (claimed q p b))) in
        let o : one (claimed q p x) ≡ 1 = ap one is in omega arith)
        (λ no. let o : one (claimed q p x) ≡ 0 = ap one no in let l = a.ledger.differ q p in omega arith) (cases_Bool (claimed q p x))

    one_tag : (q m : ℕ) (same : Bool) → tally (λ b. one (tagged q m same b)) xs ≤ 1
    one_tag q m same = let t = tallies (λ b. one (tagged q m same b)) in ⊎_elim
        (λ is. let p = and_parts _ _ is in let p' = and_parts _ _ p.1 in let p'' = and_parts _ _ p'.1 in let seat_q = eqb-true v.number q p'.0 in let met_m = eqb-true (epoch_of w) m p''.0 in
        let none_yet : tally (λ b. one (tagged q m same b)) vs ≡ 0 = tally_none (λ b. one (tagged q m same b)) vs (λ b i. ⊎_elim
        (λ has_it. let r = and_parts _ _ has_it in let r' = and_parts _ _ r.1 in let r'' = and_parts _ _ r'.1 in
        let seat_b = eqb-true b.seat q r'.0 in let met_b = eqb-true b.met m r''.0 in let on = same_slot b i (met_b ∙ sym met_m) in
        let low = waiting.not_later may.present may.waits b i (seat_b ∙ sym seat_q) on in
        let up = saw.1 in let h = here in
        let e_is : e ≡ m = omega arith in
        let lo = agreed same (eqb e m) p''.1 (eq-eqb e m e_is) in
        let loaded_b : b.loaded ≡ m = eqb-true b.loaded m (agreed_back same (eqb b.loaded m) r''.1 lo) in
        absurd (may.free (waiting.not_yet may.present may.waits b i (seat_b ∙ sym seat_q) (not_true b.claimed r.0) on (loaded_b ∙ sym e_is) (met_b ∙ sym e_is))))
        (λ z. ap one z) (cases_Bool (tagged q m same b))) in
        let o : one (tagged q m same x) ≡ 1 = ap one is in omega arith)
        (λ no. let o : one (tagged q m same x) ≡ 0 = ap one no in let l = a.ledger.twice q m same in omega arith) (cases_Bool (tagged q m same x))
      where
        agreed : (s b : Bool) → agrees s b ≡ true → b ≡ true → s ≡ true
        agreed true b x y = refl
        agreed false b x y = absurd (false≢true (sym (not_true b x) ∙ y))

        agreed_back : (s b : Bool) → agrees s b ≡ true → s ≡ true → b ≡ true
        agreed_back true b x y = x
        agreed_back false b x y = absurd (false≢true y)

    ledger : Ledger c us xs
    ledger = record {
      additions = λ b i. ⊎_elim (λ is. subst (IsAddition c us) is member) (λ old. member_grows c ws c us grows b (a.ledger.additions b old)) (came b i);
      over = λ m i. ⊎_elim (λ j. ⊎_elim (marked m) (λ k. old_over m (among_at overs m vs id (Seat v) at k)) (in_append m os v.over j)) (old_over m) (among_set overs m vs id (Seat v') i);
      gone = λ m i. ⊎_elim (λ j. ⊎_elim (λ k. let f = fair.goes m k in subst (λ (y : Mark). WasShut c y.an y.epoch × In (present_at y.an y.epoch) c.points) (sym f.0) (f.1, member.pointed)) (λ k. a.ledger.gone m (among_at gones m vs id (Seat v) at k)) (in_append m gs v.gone j)) (a.ledger.gone m) (among_set gones m vs id (Seat v') i);
      cause = λ b i. ⊎_elim (λ is. subst Caused is by_new)
          (λ old lost_b. ⊎_elim (λ o. inl (among_on gones _ vs id (Seat v) (Seat v') at (λ k. in_right _ gs v.gone k) o)) (λ (o : (b.loaded ≡ b.met) × Among overs (record { seat = b.seat; an = b.an; epoch = b.met }) vs). inr (o.0, among_on overs _ vs id (Seat v) (Seat v') at (λ k. in_right _ os v.over k) o.1)) (a.ledger.cause b old lost_b)) (came b i);
      differ = one_claim;
      twice = one_tag;
    }
      where
        Caused : Addition → Type 0
        Caused b = b.claimed ≡ false → Among gones (record { seat = b.seat; an = b.an; epoch = b.loaded }) xs ⊎ ((b.loaded ≡ b.met) × Among overs (record { seat = b.seat; an = b.an; epoch = b.met }) xs)

        by_new : Caused x
        by_new l = ⊎_elim (λ i. inl (among_at gones (mark v) xs id (Seat v') new_here (in_left (mark v) gs v.gone i)))
            (λ (t : (epoch_of w ≡ v.shown.epoch) × In (mark v) os). inr (sym t.0, subst (λ (n : ℕ). Among overs (record { seat = v.number; an = v.shown.an; epoch = n }) xs) (sym t.0) (among_at overs (mark v) xs id (Seat v') new_here (in_left (mark v) os v.over t.1)))) (fair.says l)

        old_over : (m : Mark) → Among overs m vs → In (m.an, m.epoch) c.raises × AtLeast c us m.an m.epoch (2 ^ 32 + 1) × In (present_at m.an m.epoch) c.points
        old_over m i = let o = a.ledger.over m i in (o.0, grows.least _ _ _ o.0 o.1, o.2)

    mine_after : Fits c us v'
    mine_after = let s = seat_grows c ws c us grows a.settled v refl (λ z. z) mine in record {
      number = s.number;
      own = λ b i. ⊎_elim (λ is. ap (λ (y : Addition). y.seat) (sym is)) (mine.own b) i;
      own_over = λ m i. ⊎_elim (λ j. ap (λ (y : Mark). y.seat) (fair.fills m j).0) (mine.own_over m) (in_append m os v.over i);
      own_gone = λ m i. ⊎_elim (λ j. ap (λ (y : Mark). y.seat) (fair.goes m j).0) (mine.own_gone m) (in_append m gs v.gone i);
      limit = s.limit;
      low = s.low;
      shown = s.shown;
      loaded = s.loaded;
      noted = s.noted;
      start = s.start;
      given = s.given;
      claims_rise = ((λ won_is b i bw bm. let f = fair.wins won_is in let g = f.2 in let low = below b i bw bm f.0 in omega arith), mine.claims_rise);
      not_below = λ f i b j bw at_slot at_epoch. ⊎_elim (λ is. from_given f i b is bw at_slot at_epoch) (λ old. mine.not_below f i b old bw at_slot at_epoch) j;
      reads = s.reads;
    }
      where
        -- an own claim of this epoch is below the word
        below : (b : Addition) → In b v.additions → b.claimed ≡ true → b.met ≡ epoch_of w → flag_of w ≡ false → b.pn + 1 ≤ next_of w
        below b i bw bm flag = let m = among_at adds b vs id (Seat v) at i in let on = same_slot b m bm in
            let low = ((a.ledger.additions b m).claim bw).3.now (ap (λ (k : AssociationNumber). (slot c k).shut) on ∙ open_here flag, ap (λ (k : AssociationNumber). (slot c k).epoch) on ∙ (sym here ∙ sym bm)) in
            subst (λ (k : AssociationNumber). b.pn + 1 ≤ next_of (get_or ws (number_of k) 0)) on low

        from_given : (f : NextSeen) → In f v.start.given → (b : Addition) → x ≡ b → b.claimed ≡ true → b.an ≡ f.an → b.met ≡ f.epoch → f.next ≤ b.pn
        from_given f i b is bw at_slot at_epoch =
            let won_is = ap (λ (y : Addition). y.claimed) is ∙ bw in let k = fair.wins won_is in let g : got ≡ b.pn = ap (λ (y : Addition). y.pn) is in
            let slot_is : f.an ≡ an = sym (ap (λ (y : Addition). y.an) is ∙ at_slot) in let epoch_is : epoch_of w ≡ f.epoch = ap (λ (y : Addition). y.met) is ∙ at_epoch in
            let low = (mine.given f i).2.now (ap (λ (j : AssociationNumber). (slot c j).shut) slot_is ∙ open_here k.0, ap (λ (j : AssociationNumber). (slot c j).epoch) slot_is ∙ (sym here ∙ epoch_is)) in
            let low' = subst (λ (j : AssociationNumber). f.next ≤ next_of (get_or ws (number_of j) 0)) slot_is low in let q = k.2 in omega arith

    mine_waits : Follows xs v'
    mine_waits = record {
      inherits = λ m i is. ⊎_elim (λ j. j) (λ old. in_right m os v.over (waiting.inherits m old is)) (among_set overs m vs id (Seat v') i);
      not_yet = λ _ f. absurd (false≢true (sym f));
      not_later = λ _ f. absurd (false≢true (sym f));
      not_gone = λ _ f. absurd (false≢true (sym f));
    }

    -- another seat has another number
    others_wait : (j : ℕ) (u : SeatView) → j ≢ id → get_elem? vs j ≡ some (Seat u) → Follows vs u → Follows xs u
    others_wait j u ne at_j ok = record {
      inherits = λ m i is. ⊎_elim (λ k. absurd (apart (sym is ∙ mine_after.own_over m k))) (λ old. ok.inherits m old is) (among_set overs m vs id (Seat v') i);
      not_yet = λ p n b i q. ok.not_yet p n b (old b i q) q;
      not_later = λ p n b i q. ok.not_later p n b (old b i q) q;
      not_gone = λ p n m i q. ⊎_elim (λ k. absurd (apart (sym q ∙ mine_after.own_gone m k))) (λ k. ok.not_gone p n m k q) (among_set gones m vs id (Seat v') i);
    }
      where
        apart : u.number ≢ v.number
        apart is = ne (a.numbers j id u v at_j at is)

        old : (b : Addition) → Among adds b xs → b.seat ≡ u.number → Among adds b vs
        old b i q = ⊎_elim (λ is. absurd (apart (sym q ∙ ap (λ (y : Addition). y.seat) (sym is)))) (λ k. k) (came b i)

    sums : Sums c us xs
    sums = record {
      sum = λ j z. let t = tallies (λ b. one (met j (slot c j).epoch b)) in let s = a.sums.sum j z in ⊎_elim
          (λ is. let n : next_of (get_or us (number_of j) 0) ≡ next_of (get_or ws (number_of j) 0) + 1 = subst (λ (i : AssociationNumber). next_of (get_or us (number_of i) 0) ≡ next_of (get_or ws (number_of i) 0) + 1) (sym is) next in let o = counts j is in omega arith)
          (λ ne. let n = ap next_of (others j ne) in let o : one (met j (slot c j).epoch x) ≡ 0 = ap (λ (b : Bool). one (b && (epoch_of w == (slot c j).epoch))) (ne_eqb (number_of an) (number_of j) (λ z. ne (sym z))) in omega arith)
          (same_or_apart j an);
      bound = λ j z. let t = tallies (λ b. one (lost j (slot c j).epoch b)) in let s = a.sums.bound j z in ⊎_elim
          (λ is. let n : next_of (get_or us (number_of j) 0) ≡ next_of (get_or ws (number_of j) 0) + 1 = subst (λ (i : AssociationNumber). next_of (get_or us (number_of i) 0) ≡ next_of (get_or ws (number_of i) 0) + 1) (sym is) next in
          let at_w : next_of (get_or ws (number_of j) 0) ≡ next_of w = ap (λ (i : AssociationNumber). next_of (get_or ws (number_of i) 0)) is in ⊎_elim
          (λ is_won. let f = (fair.wins is_won).3 in omega arith)
          (λ is_lost. let o : one (lost j (slot c j).epoch x) ≡ 1 = ap one (and_from _ _ (is_met j is) (ap not is_lost)) in omega arith) (cases_Bool won))
          (λ ne. let n = ap next_of (others j ne) in omega arith) (same_or_apart j an);
      shut_sum = λ f i. let o = a.sums.shut_sum f i in let t = tallies (λ b. one (met f.an f.epoch b)) in let u = tallies (λ b. one (lost f.an f.epoch b)) in ((let p = o.0 in omega arith), (let p = o.1 in omega arith));
      loads = λ f i. let o = a.sums.loads f i in (o.0, grows.least _ _ _ o.0 o.1);
    }
      where
        is_met : (j : AssociationNumber) → j ≡ an → met j (slot c j).epoch x ≡ true
        is_met j is = and_from _ _ (eq-eqb (number_of an) (number_of j) (ap number_of (sym is))) (eq-eqb (epoch_of w) (slot c j).epoch (here ∙ ap (λ (i : AssociationNumber). (slot c i).epoch) (sym is)))

        counts : (j : AssociationNumber) → j ≡ an → one (met j (slot c j).epoch x) ≡ 1
        counts j is = ap one (is_met j is)

    around : Around c us xs
    around = record {
      at_control = control_else vs id c v v' a.at_control at;
      alone = alone_else vs id v' a.alone;
      words = words_added c ws an ((w + 1) % 2 ^ 64) (wide c ws vs a) a.words (added_epoch w fits room) (added_flag w fits room) (let n = added_next w fits room in omega arith);
      settled = a.settled;
      seats = λ j u at_j. ⊎_elim (λ (t : (j ≡ id) × (Seat v' ≡ Seat u)). subst (λ (y : SeatView). Fits c us y × Follows xs y) (ap seat_of t.1) (mine_after, mine_waits))
          (λ (t : (j ≢ id) × (get_elem? vs j ≡ some (Seat u))). let s = a.seats j u t.1 in (seat_grows c ws c us grows a.settled u refl (λ z. z) s.0, others_wait j u t.0 t.1 s.1)) (at_set vs id j (Seat v') (Seat u) at_j);
      numbers = numbers_from vs xs (seat_back vs id v v' at refl) a.numbers;
      cards = cards_else c ws (number_of an) ((w + 1) % 2 ^ 64) (let few = number_of-few an in omega arith) a.cards;
      ledger = ledger;
      sums = sums;
      told = a.told;
    }

  -- which answer it is
  abbrev done : Added → SeatView
  done r = added v (epoch_of (get_or ws (number_of v.shown.an) 0)) r

  by_answer : (r : Added) → r ≡ answer v.shown.epoch w → Around c us (set vs id (Seat (done r)))
  by_answer r is = subst (λ (z : Added). Around c us (set vs id (Seat (done z)))) (sym is) (⊎_elim
      (λ t. let p = and_parts _ _ t in let f = not_true (flag_of w) p.0 in let same = eqb-true (epoch_of w) e p.1 in ⊎_elim
      (λ low. subst (λ (z : Added). Around c us (set vs id (Seat (done z)))) (sym (cond-true _ _ _ t ∙ cond-true _ _ _ low))
      (around true (next_of w) [] [] (record { wins = λ _. (f, same, refl, ltb-true _ _ low); fills = λ m i. absurd i; goes = λ m i. absurd i; says = λ z. absurd (false≢true (sym z)) })))
      (λ high. subst (λ (z : Added). Around c us (set vs id (Seat (done z)))) (sym (cond-true _ _ _ t ∙ cond-false _ _ _ high))
      (around false 0 (mark v ∷ []) [] (record { wins = λ z. absurd (false≢true z); fills = λ m i. ⊎_elim (λ q. (sym q, f, same, ltb-false _ _ high)) (λ q. absurd q) i; goes = λ m i. absurd i; says = λ _. inr (same, inl refl) })))
      (cases_Bool (ltb (next_of w) (2 ^ 32))))
      (λ no. subst (λ (z : Added). Around c us (set vs id (Seat (done z)))) (sym (cond-false _ _ _ no))
      (around false 0 [] (mark v ∷ []) (record { wins = λ z. absurd (false≢true z); fills = λ m i. absurd i; goes = λ m i. ⊎_elim (λ q. (sym q, was_gone no)) (λ q. absurd q) i; says = λ _. inl (inl refl) })))
      (cases_Bool (not (flag_of w) && (epoch_of w == e))))
    where
      was_gone : (not (flag_of w) && (epoch_of w == e)) ≡ false → WasShut c an e
      was_gone differs = ⊎_elim
          (λ shut. dite (ℕ_discrete (epoch_of w) e)
          (λ same. subst (WasShut c an) (sym here ∙ same) (a.settled.slot_shut an above (sym (a.words.shuts an) ∙ is_true (flag_of w) shut)))
          other)
          (λ ne. other (λ z. eqb-false _ _ ne z))
          (and_cases _ _ differs)
        where
          is_true : (b : Bool) → not b ≡ false → b ≡ true
          is_true true z = refl
          is_true false z = absurd (false≢true (sym z))

          other : epoch_of w ≢ e → WasShut c an e
          other ne = ⊎_elim (λ same. absurd (ne (here ∙ same))) (λ s. s) (a.settled.raised_once _ loaded_raised).2

is_true : (b : Bool) → not b ≡ false → b ≡ true
is_true true z = refl
is_true false z = absurd (false≢true (sym z))

-- a word that is shut, or shows another epoch
was_gone_by : (v : SeatView) (w : ℕ) → v.shown.epoch ≤ epoch_of w → (not (flag_of w) && (epoch_of w == v.shown.epoch)) ≡ false → Gives v Gone w
was_gone_by v w low differs = dite (ℕ_discrete (epoch_of w) v.shown.epoch)
    (λ same. ⊎_elim (λ shut. inr (same, is_true (flag_of w) shut)) (λ ne. absurd (eqb-false _ _ ne same)) (and_cases _ _ differs))
    (λ other. ⊎_elim (λ less. inl less) (λ high. absurd (other (omega arith))) (cases_lt v.shown.epoch (epoch_of w)))

-- what the answer says of the word
answered : (v : SeatView) (w : ℕ) → ((f : NextSeen) → In f v.start.given → f.an ≡ v.shown.an → f.epoch ≡ v.shown.epoch → flag_of w ≡ false → epoch_of w ≡ v.shown.epoch → f.next ≤ next_of w)
    → (flag_of w ≡ false → epoch_of w ≡ v.shown.epoch → IsAboveClaims v v.shown.epoch (next_of w)) → v.shown.epoch ≤ epoch_of w → Gives v (answer v.shown.epoch w) w
answered v w given above not_earlier = ⊎_elim
    (λ t. let p = and_parts _ _ t in let f = not_true (flag_of w) p.0 in let same = eqb-true (epoch_of w) v.shown.epoch p.1 in ⊎_elim
    (λ low. subst (λ (r : Added). Gives v r w) (sym (cond-true _ _ _ t ∙ cond-true _ _ _ low)) (same, f, refl, ltb-true _ _ low, (λ x i a b. given x i a b f same), above f same))
    (λ high. subst (λ (r : Added). Gives v r w) (sym (cond-true _ _ _ t ∙ cond-false _ _ _ high)) (same, f, ltb-false _ _ high))
    (cases_Bool (ltb (next_of w) (2 ^ 32))))
    (λ differs. subst (λ (r : Added). Gives v r w) (sym (cond-false _ _ _ differs)) (was_gone_by v w not_earlier differs))
    (cases_Bool (not (flag_of w) && (epoch_of w == v.shown.epoch)))

-- 2. a seat adds one to the slot that it was shown
pub adding : (n id : ℕ) (m : M) → m.0 ≡ Seat (seat_of m.0) → (seat_of m.0).shown.present ≡ true → (seat_of m.0).added ≡ false → ((x : Mark) → In x (seat_of m.0).over → x.epoch ≢ (seat_of m.0).shown.epoch)
    → Allows Slotted n id m (number_of (seat_of m.0).shown.an) (λ w. (w + 1) % 2 ^ 64) (Adds (step n (number_of (seat_of m.0).shown.an) 1 0 none) m)
adding n id m is present waits free s r _ at fits =
    let v = seat_of m.0 in let w : ℕ = get_or s.words (number_of v.shown.an) 0 in let here = at ∙ ap some is in let may : May v = record { present = present; waits = waits; free = λ i. free (mark v) i refl } in (
      Seat (added v (epoch_of w) (answer v.shown.epoch w)),
      keeps,
      tt,
      (r.0, by_answer r.0 s.words s.views r.1 id v here may fits (answer v.shown.epoch w) refl),
      (
        refl,
        answered v w
            (λ f i at_slot at_epoch flag same.
            let f' = ((r.1.seats id v here).0.given f i).2 in
            subst (λ (j : AssociationNumber). f.next ≤ next_of (get_or s.words (number_of j) 0)) at_slot (f'.now (ap (λ (j : AssociationNumber). (slot r.0 j).shut) at_slot ∙ (sym (r.1.words.shuts v.shown.an) ∙ flag), ap (λ (j : AssociationNumber). (slot r.0 j).epoch) at_slot ∙ (sym (r.1.words.epochs v.shown.an) ∙ (same ∙ sym at_epoch)))))
            (above_own r.0 s.words s.views r.1 id v here may fits) (not_earlier r.0 s.words s.views r.1 id v here may fits),
      ),
    )

pub adding_as : (n id : ℕ) (m : M) (k : ℕ) → k ≡ number_of (seat_of m.0).shown.an → m.0 ≡ Seat (seat_of m.0) → (seat_of m.0).shown.present ≡ true → (seat_of m.0).added ≡ false → ((x : Mark) → In x (seat_of m.0).over → x.epoch ≢ (seat_of m.0).shown.epoch)
    → Allows Slotted n id m k (λ w. (w + 1) % 2 ^ 64) (Adds (step n k 1 0 none) m)
adding_as n id m k at is present waits free = subst (λ (j : ℕ). Allows Slotted n id m j (λ w. (w + 1) % 2 ^ 64) (Adds (step n j 1 0 none) m)) (sym at) (adding n id m is present waits free)

-- what a seat has done, from what the step told
pub did_add : (v w : SeatView) (found : ℕ) (r : Added) → w ≡ added v (epoch_of found) (answer v.shown.epoch found) → Gives v (answer v.shown.epoch found) found → r ≡ answer v.shown.epoch found → IsAdded v r w
did_add v w found r is gives same = subst (λ (z : Added). IsAdded v z w) (sym same) (found, is, gives)

-- the view, by the answer
pub added_now : (m m' : M) (found : ℕ) (r : Added) → m' ≡ (Seat (added (seat_of m.0) (epoch_of found) (answer (seat_of m.0).shown.epoch found)), m.1) → m.1 ≡ [] → r ≡ answer (seat_of m.0).shown.epoch found → m' ≡ (Seat (added (seat_of m.0) (epoch_of found) r), [])
added_now m m' found r is bare same = is ∙ (λ i. (Seat (added (seat_of m.0) (epoch_of found) (sym same i)), bare i))
