-- A claim with no other seat out.
use Rattle.std.proofs.Common.{◌≡◌, ℕ, ◌+◌, ◌^◌, ◌<◌, ◌≤◌, Bool, true, false, not, ◌&&◌, ◌||◌, List, [], ◌∷◌, ◌++◌, length, get_or, set, Result, Ok, Err, MatchResult, refl, sym, ap, ◌∙◌, subst, inl, ⊎_elim, arith, eq-eqb, length-set, get_or-set_other, get_or-set_same}
use mathlib.Core.Logic.{dite}
use native.Mathlib.Decide.{ℕ_discrete}
use Rattle.std.proofs.lemmas.Bool.{and_from, false≢true}
use Rattle.lan_base.specs.declared.association_number.AssociationNumber.{AssociationNumber}
use Rattle.lan_base.specs.declared.association_number.AssociationNumber.TheVariants.{An0, An1, An2, An3}
use Rattle.lan_base.specs.AssociationNumbers.{number_of}
use Rattle.association_slots.specs.Cards.{Knows}
use Rattle.association_slots.specs.Views.{newest, was_pointed, In, slot, current, present_at, IsOpen, AllIn, free, free_number, weigh, one, met, told_sum}
use Rattle.association_slots.specs.Steps.{seated, new_seat, told, least_next, given_of}
use Rattle.association_slots.specs.Learned.{Learned}
use Rattle.association_slots.specs.declared.card.Card.{Card}
use Rattle.association_slots.specs.declared.view.Current.{Current}
use Rattle.association_slots.specs.declared.view.Addition.{Addition}
use Rattle.association_slots.specs.declared.view.Mark.{Mark}
use Rattle.association_slots.specs.declared.view.NextSeen.{NextSeen}
use Rattle.association_slots.specs.declared.view.ControlView.{ControlView}
use Rattle.association_slots.specs.declared.view.SeatView.{SeatView}
use Rattle.association_slots.proofs.Public.{in_left, behind_cons_if, at_cons_if, once}
use Rattle.packet_claims.specs.Alone.{next_now, IsNextClaim}
use Rattle.packet_claims.specs.Claims.{gone_mark, Stays, IsClaim, IsNoKey, IsExhausted, Did}
use Rattle.packet_claims.specs.declared.answers.Claim.{Claim}
use Rattle.packet_claims.specs.declared.answers.NoClaim.{NoClaim}
use Rattle.packet_claims.specs.declared.answers.NoClaim.TheVariants.{NoKey, Exhausted}

knows_more : (reads more : List (ℕ × ℕ)) (epoch : ℕ) (card : Card) → Knows reads epoch card → Knows (reads ++ more) epoch card
knows_more reads more epoch card k = (k.0, k.1, k.2, k.3, k.4, in_left _ reads more k.5, in_left _ reads more k.6, in_left _ reads more k.7, in_left _ reads more k.8, in_left _ reads more k.9, k.10)

-- Of each slot that is open with an epoch that was pointed at, a seat is given the least next number

here : (c : ControlView) (an : AssociationNumber) (rest : List NextSeen) → (not (slot c an).shut && was_pointed an (slot c an).epoch c.points) ≡ true → In (least_next c an) (given_of c an rest)
here c an rest is = at_cons_if (not (slot c an).shut && was_pointed an (slot c an).epoch c.points) (least_next c an) rest is

past : (c : ControlView) (an : AssociationNumber) (f : NextSeen) (rest : List NextSeen) → In f rest → In f (given_of c an rest)
past c an f rest i = behind_cons_if (not (slot c an).shut && was_pointed an (slot c an).epoch c.points) (least_next c an) f rest i

-- the current key was pointed at
pub newest_pointed : (ps : List Current) → (newest ps).present ≡ true → was_pointed (newest ps).an (newest ps).epoch ps ≡ true
newest_pointed [] is = absurd (false≢true is)
newest_pointed (p ∷ ps) is = left_of _ _ (and_from _ _ is (and_from _ _ (eq-eqb (number_of p.an) (number_of p.an) refl) (eq-eqb p.epoch p.epoch refl)))
  where
    left_of : (a b : Bool) → a ≡ true → (a || b) ≡ true
    left_of true b t = refl
    left_of false b t = absurd (false≢true t)

pub given_at : (c : ControlView) (j : AssociationNumber) → (not (slot c j).shut && was_pointed j (slot c j).epoch c.points) ≡ true → In (least_next c j) (given_of c An0 (given_of c An1 (given_of c An2 (given_of c An3 []))))
given_at c An0 o = here c An0 (given_of c An1 (given_of c An2 (given_of c An3 []))) o
given_at c An1 o = past c An0 (least_next c An1) (given_of c An1 (given_of c An2 (given_of c An3 []))) (here c An1 (given_of c An2 (given_of c An3 [])) o)
given_at c An2 o = past c An0 (least_next c An2) (given_of c An1 (given_of c An2 (given_of c An3 []))) (past c An1 (least_next c An2) (given_of c An2 (given_of c An3 [])) (here c An2 (given_of c An3 []) o))
given_at c An3 o = past c An0 (least_next c An3) (given_of c An1 (given_of c An2 (given_of c An3 []))) (past c An1 (least_next c An3) (given_of c An2 (given_of c An3 [])) (past c An2 (least_next c An3) (given_of c An3 []) (here c An3 [] o)))

module _ (c : ControlView) (w : SeatView) (known : Learned c) (back : Learned (told (seated c) w)) (room : free_number c ≤ 8) (number : w.number ≡ free_number c) where
  abbrev d : ControlView
  d = told (seated c) w

  -- no seat is out when this one is back
  pub all_in : AllIn c → AllIn (told (seated c) w)
  all_in in_ k = dite (ℕ_discrete k (free c.out))
      (λ is. subst (λ (j : ℕ). get_or (set (set c.out (free c.out) true) j false) k false ≡ false) (omega arith) (ap (λ (j : ℕ). get_or (set (set c.out (free c.out) true) (free c.out) false) j false) is ∙ get_or-set_same (set c.out (free c.out) true) (free c.out) false false long))
      (λ ne. subst (λ (j : ℕ). get_or (set (set c.out (free c.out) true) j false) k false ≡ false) (omega arith) (get_or-set_other (set c.out (free c.out) true) (free c.out) k false false ne ∙ (get_or-set_other c.out (free c.out) k true false ne ∙ in_ k)))
    where
      long : free c.out < length (set c.out (free c.out) true)
      long = let e = known.settled.eight in let l = length-set c.out (free c.out) true in omega arith

  -- a note is of the epoch that was pointed at last, after which nothing was present
  pub note_of : (after : ℕ) → IsNoKey (new_seat c) w after → (after ≡ (current c).epoch) × ((current c).present ≡ true → ⊥)
  note_of after k =
      let n = back.noted after (subst (λ (ns : List ℕ). In after (ns ++ c.told_notes)) (sym k.notes) (inl refl)) in let low = known.settled.absent_low after n in let s = k.not_below.start in
      (omega (arith, low.0), λ present. let l = low.1 present in absurd (omega arith))

  told_claim : (an : AssociationNumber) (epoch pn : ℕ) (card : Card) (k : IsClaim (new_seat c) w an epoch pn card) → In (record { seat = free_number c; an = an; met = epoch; loaded = epoch; claimed = true; pn = pn }) d.told
  told_claim an epoch pn card k = subst (λ (xs : List Addition). In (record { seat = free_number c; an = an; met = epoch; loaded = epoch; claimed = true; pn = pn }) (xs ++ c.told)) (sym k.additions) (inl refl)

  -- with nothing present there is no claim, and no epoch is exhausted
  pub no_claim : (current c).present ≡ false → (an : AssociationNumber) (epoch pn : ℕ) (card : Card) → IsClaim (new_seat c) w an epoch pn card → ⊥
  no_claim absent an epoch pn card k = let p = (known.settled.points_low _ (back.additions _ (told_claim an epoch pn card k)).pointed).0 in let a = k.above.start absent in absurd (omega arith)

  pub no_full : (current c).present ≡ false → (epoch : ℕ) → IsExhausted (new_seat c) w epoch → ⊥
  no_full absent epoch k = let m = k.over in let p = (known.settled.points_low _ (back.over m.0 (in_left m.0 w.over c.told_over m.1))).0 in let a = k.above.start absent in let e = m.3 in absurd (omega arith)

  module _ (in_ : AllIn c) (present : (current c).present ≡ true) where
    abbrev an : AssociationNumber
    an = (current c).an

    abbrev e : ℕ
    e = (current c).epoch

    is_open : IsOpen c an e
    is_open = known.settled.names_open present

    -- a point that is no lower than the current one names what it names
    same_point : (q : Current) → In q c.points → q.present ≡ true → e ≤ q.epoch → (q.epoch ≡ e) × (q.an ≡ an)
    same_point q i is later = let l = known.settled.points_low q i in let same : q.epoch ≡ e = let z = l.0 in omega arith in
        (same, once c.raises known.settled.rise (q.an, q.epoch) (an, e) (l.1 is) (subst (λ (n : ℕ). In (an, n) c.raises) is_open.1 (known.settled.slot_raised an (known.settled.open_some an is_open.0))) same)

    -- no number is lost
    none_lost : (lost : List Addition) → Stays (new_seat c) w lost → lost ≡ []
    none_lost [] s = refl
    none_lost (a ∷ rest) s =
        let m = gone_mark a in let told_it : In m d.told_gone = subst (λ (ms : List Mark). In m (ms ++ c.told_gone)) (sym s.gone) (inl refl) in
        let g = back.gone m told_it in let late = (s.lost_nothing a (inl refl)).1 in let q = same_point (present_at a.an a.loaded) g.1 refl late in
        absurd (known.settled.found_gone an is_open.0 g.0.0 g.0.1 (g.0.3 ∙ (q.0 ∙ sym is_open.1)))

    next_is : (n : ℕ) → (xs : List Addition) → w.additions ≡ xs → told_sum d an e ≡ c.first + weigh (λ a. one (met an e a)) (xs ++ c.told)
    next_is n xs is = ap (λ (ys : List Addition). c.first + weigh (λ a. one (met an e a)) (ys ++ c.told)) is

    one_low : (b : Bool) → one b ≤ 1
    one_low true = omega arith
    one_low false = omega arith

    given_here : In (least_next c an) (new_seat c).start.given
    given_here = given_at c an (and_from _ _ (ap not is_open.0) (subst (λ (n : ℕ). was_pointed an n c.points ≡ true) (sym is_open.1) (newest_pointed c.points present)))

    least_low : told_sum c an e ≤ (least_next c an).next
    least_low = let z : told_sum c an (slot c an).epoch ≡ told_sum c an e = ap (told_sum c an) is_open.1 in omega arith

    where_claimed : (k_an : AssociationNumber) (epoch pn : ℕ) (card : Card) → IsClaim (new_seat c) w k_an epoch pn card → (epoch ≡ e) × (k_an ≡ an) × (told_sum c an e ≤ pn)
    where_claimed k_an epoch pn card k =
        let q = same_point (present_at k_an epoch) (back.additions _ (told_claim k_an epoch pn card k)).pointed refl k.not_below.start in
        let high = k.given (least_next c an) given_here (sym q.1) (is_open.1 ∙ sym q.0) in let low = least_low in (q.0, q.1, omega arith)

    pub wins : (k : Claim) → IsClaim (new_seat c) w k.an k.epoch k.pn k.card → IsNextClaim c (told (seated c) w) k
    wins k did =
        let at = where_claimed k.an k.epoch k.pn k.card did in
        let x : Addition = record { seat = free_number c; an = k.an; met = k.epoch; loaded = k.epoch; claimed = true; pn = k.pn } in
        let adds : w.additions ≡ x ∷ [] = did.additions ∙ ap (λ (xs : List Addition). x ∷ xs ++ []) (none_lost did.lost did.stays) in
        let more = next_is 0 (x ∷ []) adds in let o : one (met an e x) ≡ 1 = ap one (and_from _ _ (eq-eqb (number_of k.an) (number_of an) (ap number_of at.1)) (eq-eqb k.epoch e at.0)) in
        let n = back.open_next an e is_open in let below = n.1.above_claims x (told_claim k.an k.epoch k.pn k.card did) refl at.1 at.0 in let sum = n.1.is_sum (all_in in_) in let high = at.2 in
        let some = did.number.0 in
        (at.1, at.0, omega arith, sym (back.cards k.epoch k.card some (knows_more w.reads c.told_reads k.epoch k.card did.knows)), ap (λ (xs : List Addition). xs ++ c.told) adds, omega arith)

    pub high_claim : (k_an : AssociationNumber) (epoch pn : ℕ) (card : Card) → 2 ^ 32 ≤ told_sum c an e → IsClaim (new_seat c) w k_an epoch pn card → ⊥
    high_claim k_an epoch pn card full k = let at = where_claimed k_an epoch pn card k in let l = k.number.1 in let h = at.2 in absurd (omega arith)

    pub full_of : (epoch : ℕ) → IsExhausted (new_seat c) w epoch → (epoch ≡ e) × (2 ^ 32 ≤ told_sum c an e)
    full_of epoch k =
        let m = k.over in let told_it = in_left m.0 w.over c.told_over m.1 in let s = k.not_below.start in
        let q = same_point (present_at m.0.an m.0.epoch) (back.over m.0 told_it) refl (omega (arith, m.3)) in
        let n = back.open_next an e is_open in let above = n.1.above_over m.0 told_it q.1 q.0 in let sum = n.1.is_sum (all_in in_) in (
          omega (arith, q.0, m.3),
          ⊎_elim
              (λ is. let z = next_is 0 [] (is ∙ ap (λ (xs : List Addition). xs ++ []) (none_lost k.lost k.stays)) in omega arith)
              (λ is. let x : Addition = record { seat = free_number c; an = w.shown.an; met = epoch; loaded = epoch; claimed = false; pn = 0 } in
              let z = next_is 0 (x ∷ []) (is ∙ ap (λ (xs : List Addition). x ∷ xs ++ []) (none_lost k.lost k.stays)) in let y = one_low (met an e x) in omega arith) k.additions,
        )

  -- by the answer

  pub next_claim : AllIn c → (current c).present ≡ true → next_now c < 2 ^ 32 → (r : Result Claim NoClaim) → Did (new_seat c) w r → MatchResult r (IsNextClaim c (told (seated c) w)) (λ _. ⊥)
  next_claim in_ present low (Ok k) did = wins in_ present k did
  next_claim in_ present low (Err (NoKey after)) did = (note_of after did).1 present
  next_claim in_ present low (Err (Exhausted epoch)) did = let f = (full_of in_ present epoch did).1 in absurd (omega arith)

  pub exhausted : AllIn c → (current c).present ≡ true → 2 ^ 32 ≤ next_now c → (r : Result Claim NoClaim) → Did (new_seat c) w r → r ≡ Err (Exhausted (current c).epoch)
  exhausted in_ present full (Ok k) did = absurd (high_claim in_ present k.an k.epoch k.pn k.card full did)
  exhausted in_ present full (Err (NoKey after)) did = absurd ((note_of after did).1 present)
  exhausted in_ present full (Err (Exhausted epoch)) did = ap (λ (n : ℕ). let r : Result Claim NoClaim = Err (Exhausted n) in r) (full_of in_ present epoch did).0

  pub no_key : (current c).present ≡ false → (r : Result Claim NoClaim) → Did (new_seat c) w r → r ≡ Err (NoKey (current c).epoch)
  no_key absent (Ok k) did = absurd (no_claim absent k.an k.epoch k.pn k.card did)
  no_key absent (Err (NoKey after)) did = ap (λ (n : ℕ). let r : Result Claim NoClaim = Err (NoKey n) in r) (note_of after did).0
  no_key absent (Err (Exhausted epoch)) did = absurd (no_full absent epoch did)

-- what `claim` says of each answer, in one
pub did_by : (v w : SeatView) (r : Result Claim NoClaim) → Rattle.std.specs.Prelude.IfOk r (λ k. IsClaim v w k.an k.epoch k.pn k.card) → ((after : ℕ) → r ≡ Err (NoKey after) → IsNoKey v w after) → ((epoch : ℕ) → r ≡ Err (Exhausted epoch) → IsExhausted v w epoch) → Did v w r
did_by v w (Ok k) ok absent full = ok
did_by v w (Err (NoKey after)) ok absent full = absent after refl
did_by v w (Err (Exhausted epoch)) ok absent full = full epoch refl

pub same_number : (v w : SeatView) (r : Result Claim NoClaim) → Did v w r → w.number ≡ v.number
same_number v w (Ok k) did = did.stays.number
same_number v w (Err (NoKey after)) did = did.stays.number
same_number v w (Err (Exhausted epoch)) did = did.stays.number
