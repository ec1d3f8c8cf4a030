-- Who is eligible.
use Rattle.std.proofs.Common.{◌≡◌, true, false, List, [], ◌∷◌, refl, inl, inr, filter, arith}
use Rattle.std.specs.List.{All, Contains}
use Rattle.std.proofs.lemmas.List.Elements.{All-nil, All-cons, All-head, All-tail, All-weaker, All-filter, All-contains, All-contains_itself, Contains-append_right, filter_passes}
use Rattle.std.proofs.lemmas.Bool.{cases_Bool, eqb-true, not-false}
use Rattle.server_election.specs.declared.candidate.Candidate.{Candidate}
use Rattle.server_election.specs.Election.{may_serve}

pub Contains-passed : (xs : List Candidate) (x : Candidate) → Contains (filter may_serve xs) x → Contains xs x
Contains-passed xs x is = All-contains (Contains xs) (filter may_serve xs) x (All-filter may_serve (Contains xs) xs (All-contains_itself xs)) is

pub passes-passed : (xs : List Candidate) (x : Candidate) → Contains (filter may_serve xs) x → may_serve x ≡ true
passes-passed xs x is = All-contains (λ y. may_serve y ≡ true) (filter may_serve xs) x (filter_passes may_serve xs) is

-- each that passes is kept
abbrev IsKept : List Candidate → Candidate → Type 0
IsKept kept x = may_serve x ≡ true → Contains kept x

All-kept : (xs : List Candidate) → All (IsKept (filter may_serve xs)) xs
All-kept [] = All-nil (IsKept [])
All-kept (x ∷ xs) =
    elim (cases_Bool (may_serve x)) [
      | inl passes ↦ rw passes (All-cons (IsKept (x ∷ filter may_serve xs)) x xs (λ _. (0, omega arith, refl))
          (All-weaker (IsKept (filter may_serve xs)) (IsKept (x ∷ filter may_serve xs)) (λ y kept also. Contains-append_right (x ∷ []) (filter may_serve xs) y (kept also)) xs (All-kept xs)))
      | inr fails ↦ rw fails (All-cons (IsKept (filter may_serve xs)) x xs (λ passes. cc) (All-kept xs))
    ]

pub Contains-kept : (xs : List Candidate) (x : Candidate) → Contains xs x → may_serve x ≡ true → Contains (filter may_serve xs) x
Contains-kept xs x is passes = All-contains (IsKept (filter may_serve xs)) xs x (All-kept xs) is passes

-- nobody is kept exactly where each has the last priority
pub All-from_nobody : (xs : List Candidate) → filter may_serve xs ≡ [] → All (λ x. x.priority ≡ 255) xs
All-from_nobody [] none = All-nil (λ x. x.priority ≡ 255)
All-from_nobody (x ∷ xs) none =
    elim (cases_Bool (may_serve x)) [
      | inl passes ↦ let kept = rw passes at none in cc
      | inr fails ↦ All-cons (λ x. x.priority ≡ 255) x xs (eqb-true x.priority 255 (not-false _ fails)) (All-from_nobody xs (rw fails at none))
    ]

pub nobody-from_All : (xs : List Candidate) → All (λ x. x.priority ≡ 255) xs → filter may_serve xs ≡ []
nobody-from_All [] all = refl
nobody-from_All (x ∷ xs) all =
    let never : may_serve x ≡ false = rw (All-head (λ x. x.priority ≡ 255) x xs all) in
    rw never (nobody-from_All xs (All-tail (λ x. x.priority ≡ 255) x xs all))
