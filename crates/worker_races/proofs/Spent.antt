-- No epoch of a race can have come near its last packet number: as few numbers were claimed.
use Rattle.std.proofs.Common.{◌≡◌, ◌<◌, ◌≤◌, ◌+◌, ◌^◌, ◌==◌, ◌&&◌, ℕ, suc, Bool, true, false, not, cond, List, [], ◌∷◌, length}
use Rattle.std.proofs.Common.{refl, sym, ap, subst, arith, inl, inr, eq-eqb}
use Rattle.std.proofs.lemmas.Bool.{cases_Bool, eqb-true, and_parts}
use Rattle.lan_base.specs.declared.association_number.AssociationNumber.{AssociationNumber}
use Rattle.lan_base.specs.AssociationNumbers.{same_an}
use Rattle.association_slots.specs.Learned.{Learned}
use Rattle.association_slots.specs.Views.{AllIn, ControlAt, In, WasShut, claimed, claims, cons_if, count, lost, met, one, present_at, slot, told_sum}
use Rattle.association_slots.specs.declared.view.Addition.{Addition}
use Rattle.association_slots.specs.declared.view.ControlView.{ControlView}
use Rattle.association_slots.specs.declared.view.Mark.{Mark}
use Rattle.association_slots.specs.declared.view.SeatView.{SeatView}
use Rattle.data_workers.specs.declared.entry.Entry.{Entry}
use Rattle.data_workers.specs.declared.entry.Entry.TheVariants.{Taken, Refused}
use Rattle.data_workers.specs.Logs.{claim_of, claims_after}
use Rattle.data_workers.specs.Workers.{WorkerAt}
use Rattle.lan_core.specs.Ledgers.{Claim}
use Rattle.lan_core.specs.Run.{Run}
use Rattle.lan_base.specs.declared.frame.UserFrame.{UserFrame}
use Rattle.group_safety.specs.Accounts.{numbers_at}
use Rattle.station_words.specs.Counting.{times_in, times_under}
use Rattle.worker_races.proofs.Seating.{added}
use Rattle.worker_races.proofs.Hands.{AreHands, entries_count}

-- the addition claimed a number of the epoch
abbrev pub took : ℕ → Addition → Bool
took e a = a.claimed && (a.met == e)

-- ---- a log takes no more than its entries

took-claims : (e : ℕ) (xs : List Addition) → count (took e) xs ≤ length (claims xs)
took-claims e [] = omega arith
took-claims e (a ∷ xs) = go a.claimed (took-claims e xs)
  where
    go : (b : Bool) → count (took e) xs ≤ length (claims xs)
        → one (b && (a.met == e)) + count (took e) xs ≤ length (cons_if b a (claims xs))
    go false less = omega (arith, less)
    go true less = elim (cases_Bool (a.met == e)) [
      | inl same ↦ rw same (omega (arith, less))
      | inr other ↦ rw other (omega (arith, less))
    ]

after-short : (n : ℕ) (log : List Entry) (before : List Addition)
    → length (claims_after n log before) ≤ length log + length before
after-short n [] before = omega arith
after-short n (Taken p ∷ log) before = let rest = after-short n log (claim_of n p ∷ before) in omega (arith, rest)
after-short n (Refused s why ∷ log) before = let rest = after-short n log before in omega (arith, rest)

module _ (users : List UserFrame) (r : Run) (before after : List ControlAt) where
  pub added-few : (e t number : ℕ) (ds : List WorkerAt) → AreHands users r before after number ds
      → added (took e) t ds ≤ entries_count ds
  unfolding added entries_count
  added-few e t number [] hands = omega arith
  added-few e t number (d ∷ ds) hands =
      let rest = added-few e t (suc number) ds hands.1 in
      let here = took-claims e d.seat.view.additions in
      let are = ap length hands.0.log.claims_are in
      let none = ap (λ (v : SeatView). length (claims v.additions)) hands.0.took.is in
      let short = after-short hands.0.began.seat.view.number d.log (claims hands.0.began.seat.view.additions) in
      go (d.sender.station == t) rest (omega (arith, here, are, none, short))
    where
      go : (b : Bool) → added (took e) t ds ≤ entries_count ds → count (took e) d.seat.view.additions ≤ length d.log
          → cond b (count (took e) d.seat.view.additions) 0 + added (took e) t ds ≤ length d.log + entries_count ds
      go true rest here = omega (arith, rest, here)
      go false rest here = omega (arith, rest)

-- ---- what was told of a run is no more than its claims

without : ℕ → ℕ → List (ℕ × ℕ) → List (ℕ × ℕ)
without e n [] = []
without e n (y ∷ ys) = cond ((y.0 == e) && (y.1 == n)) ys (y ∷ without e n ys)

same-pair : (a b e n q : ℕ) → ((a == e) && (b == n)) ≡ true → one ((a == e) && (b == q)) ≡ one (n == q)
same-pair a b e n q is =
    let parts = and_parts (a == e) (b == n) is in
    rw parts.0 (ap (λ m. one (m == q)) (eqb-true b n parts.1))

without-in : (e n q : ℕ) (ys : List (ℕ × ℕ)) → 1 ≤ times_in e n ys
    → times_in e q ys ≡ one (n == q) + times_in e q (without e n ys)
unfolding without
without-in e n q [] some = absurd (omega (arith, some))
without-in e n q (y ∷ ys) some = elim (cases_Bool ((y.0 == e) && (y.1 == n))) [
  | inl here ↦ (let same = same-pair y.0 y.1 e n q here in rw here (omega (arith, same)))
  | inr not ↦ (let rest = without-in e n q ys (let w : 1 ≤ one ((y.0 == e) && (y.1 == n)) + times_in e n ys = some in
      let none = ap one not in omega (arith, w, none)) in rw not (omega (arith, rest)))
]

without-under : (e n : ℕ) (ys : List (ℕ × ℕ)) → 1 ≤ times_in e n ys
    → times_under e ys ≡ 1 + times_under e (without e n ys)
unfolding without
without-under e n [] some = absurd (omega (arith, some))
without-under e n (y ∷ ys) some = elim (cases_Bool ((y.0 == e) && (y.1 == n))) [
  | inl here ↦ rw here (let at : one (y.0 == e) ≡ 1 = ap one (and_parts (y.0 == e) (y.1 == n) here).0 in omega (arith, at))
  | inr not ↦ (let rest = without-under e n ys (let w : 1 ≤ one ((y.0 == e) && (y.1 == n)) + times_in e n ys = some in
      let none = ap one not in omega (arith, w, none)) in rw not (omega (arith, rest)))
]

claimed-took : (e q : ℕ) (a : Addition) → took e a ≡ true → one (claimed e q a) ≡ one (a.pn == q)
claimed-took e q a is = let parts = and_parts a.claimed (a.met == e) is in rw (parts.0, parts.1) refl

pub told-few : (e : ℕ) (xs : List Addition) (ys : List (ℕ × ℕ))
    → ((q : ℕ) → count (claimed e q) xs ≤ times_in e q ys) → count (took e) xs ≤ times_under e ys
told-few e [] ys few = omega arith
told-few e (a ∷ xs) ys few = elim (cases_Bool (took e a)) [
  | inr not ↦ (let rest = told-few e xs ys (λ q. (let w : one (claimed e q a) + count (claimed e q) xs ≤ times_in e q ys = few q in omega (arith, w))) in
      let none = ap one not in omega (arith, rest, none))
  | inl is ↦ (let some : 1 ≤ times_in e a.pn ys =
      (let w : one (claimed e a.pn a) + count (claimed e a.pn) xs ≤ times_in e a.pn ys = few a.pn in
      let one_is = claimed-took e a.pn a is in let same = ap one (eq-eqb a.pn a.pn refl) in omega (arith, w, one_is, same)) in
      let rest = told-few e xs (without e a.pn ys) (λ q. (let w : one (claimed e q a) + count (claimed e q) xs ≤ times_in e q ys = few q in
      let one_is = claimed-took e q a is in let less = without-in e a.pn q ys some in omega (arith, w, one_is, less))) in
      let less = without-under e a.pn ys some in
      let here = ap one is in omega (arith, rest, less, here))
]

pub numbers-few : (s e : ℕ) (cs : List Claim) → times_under e (numbers_at s cs) ≤ length cs
numbers-few s e [] = omega arith
numbers-few s e (c ∷ cs) = go (c.station == s) (numbers-few s e cs)
  where
    go : (b : Bool) → times_under e (numbers_at s cs) ≤ length cs
        → times_under e (cond b ((c.epoch, c.pn) ∷ numbers_at s cs) (numbers_at s cs)) ≤ suc (length cs)
    go false less = omega (arith, less)
    go true less = elim (cases_Bool (c.epoch == e)) [
      | inl same ↦ rw same (omega (arith, less))
      | inr other ↦ rw other (omega (arith, less))
    ]

-- ---- the sum of an epoch

met-parts : (an : AssociationNumber) (e : ℕ) (xs : List Addition)
    → count (met an e) xs ≤ count (took e) xs + count (lost an e) xs
met-parts an e [] = omega arith
met-parts an e (a ∷ xs) = go a.claimed (same_an a.an an) (a.met == e) (met-parts an e xs)
  where
    go : (b s m : Bool) → count (met an e) xs ≤ count (took e) xs + count (lost an e) xs
        → one (s && m) + count (met an e) xs ≤ (one (b && m) + count (took e) xs) + (one ((s && m) && not b) + count (lost an e) xs)
    go true true true less = omega (arith, less)
    go true true false less = omega (arith, less)
    go true false m less = omega (arith, less)
    go false true true less = omega (arith, less)
    go false true false less = omega (arith, less)
    go false false m less = omega (arith, less)

-- a number that an epoch, which was raised, has come to, as far as control knows
pub over-next : (v : ControlView) (m : Mark) → Learned v → AllIn v → In m v.told_over → 2 ^ 32 < told_sum v m.an m.epoch
over-next v m learned all_in told =
    let pointed = learned.over m told in
    let raised = (learned.settled.points_low (present_at m.an m.epoch) pointed).1 refl in
    let once = learned.settled.raised_once (m.an, m.epoch) raised in
    elim once.2 [
      | inr was ↦ shut was
      | inl stands ↦ elim (cases_Bool (slot v m.an).shut) [
        | inl is_shut ↦ (let some : 0 < (slot v m.an).epoch = (let z = once.0 in omega (arith, z, stands)) in
            shut (subst (λ e. WasShut v m.an e) stands (learned.settled.slot_shut m.an some is_shut)))
        | inr opened ↦ (let next = learned.open_next m.an m.epoch (opened, stands) in
            let high = next.1.above_over m told refl refl in
            let sum = next.1.is_sum all_in in omega (arith, high, sum))
      ]
    ]
  where
    shut : WasShut v m.an m.epoch → 2 ^ 32 < told_sum v m.an m.epoch
    shut was =
        let next = learned.shut_next was.0 was.1 in
        let high = next.above_over m told (sym was.2) (sym was.3) in
        let low = (next.low all_in).0 in
        let same : told_sum v was.0.an was.0.epoch ≡ told_sum v m.an m.epoch = (λ i. told_sum v (was.2 i) (was.3 i)) in
        omega (arith, high, low, same)

pub none-over : (v : ControlView) (m : Mark) → Learned v → AllIn v → v.first ≡ 1
    → count (lost m.an m.epoch) v.told ≤ 16 → count (took m.epoch) v.told + 16 < 2 ^ 32 → In m v.told_over → ⊥
none-over v m learned all_in first lost_few took_few told =
    let high = over-next v m learned all_in told in
    let parts = met-parts m.an m.epoch v.told in
    omega (arith, high, parts, first, lost_few, took_few)
