-- The part of a run that a race gives, and that it is woven of control and of the logs.
use Rattle.std.specs.Prelude.{◌≡◌, ℕ, ◌+◌, ◌==◌, Bool, true, false, List, [], ◌∷◌}
use Rattle.std.specs.List.{AllByRecursion, filter}
use Rattle.lan_core.specs.declared.event.Event.{Event}
use Rattle.lan_core.specs.declared.event.Event.TheVariants as events
use Rattle.lan_core.specs.declared.fact.Fact.TheVariants as facts
use Rattle.lan_core.specs.declared.fact.Lack.{Lack}
use Rattle.lan_core.specs.declared.settings.Settings.{Settings}
use Rattle.lan_core.specs.Parts.{is_claim, without_claims}
use Rattle.lan_core.specs.Run.{Run, Happening}
use Rattle.worker_races.specs.merge.Places.{Attempt}
use Rattle.worker_races.specs.merge.Marks.{Mark, Control, Claim}
use Rattle.worker_races.specs.merge.Merged.{nth_log}
use Rattle.worker_races.specs.merge.Raced.{claim_after, user_of}

-- what happens by a list of marks after a run, oldest first
abbrev pub part_of : Settings → ℕ → List Mark → Run → List Happening
part_of settings base [] r = []
part_of settings base (Control n m ∷ zs) r = m.x ∷ part_of settings base zs (m.x ∷ r)
part_of settings base (Claim x ∷ zs) r =
    claim_after settings base x r ∷ part_of settings base zs (claim_after settings base x r ∷ r)

abbrev pub is_claim_for : ℕ → Event → Bool
is_claim_for number (events.Claim s user pn) = user == number
is_claim_for number _ = false

-- the claim of an attempt: with its number under its AN and epoch, or with none
pub record IsClaimOf (base : ℕ) (x : Attempt) (h : Happening) : Type 0 where
  pub event : h.event ≡ events.Claim x.station (user_of base x) x.number
  pub taken : x.refused ≡ false → h.facts ≡ facts.Claimed x.station x.an x.epoch x.number ∷ []
  pub none : x.refused ≡ true → (why : Lack) × (h.facts ≡ facts.Unclaimed x.station why ∷ [])

abbrev pub AreClaimsOf : ℕ → List Attempt → List Happening → Type 0
AreClaimsOf base [] [] = Unit {0}
AreClaimsOf base (x ∷ xs) (h ∷ hs) = IsClaimOf base x h × AreClaimsOf base xs hs
AreClaimsOf base _ _ = ⊥

-- a claim is for the user frame of some log
abbrev pub IsOfLog : ℕ → Happening → Type 0
IsOfLog base h = is_claim h.event ≡ true
    → (u : ℕ) × (is_claim_for (base + u + 1) h.event ≡ true)

-- A part is woven of control and the logs: its events that are no claims are control's, and its
-- claims are those for the user frames of the logs; they are each log's attempts, and both stand in
-- their order.
pub record IsWoven (base : ℕ) (part steps : List Happening) (logs : List (List Attempt)) :
    Type 0 where
  pub control : without_claims part ≡ steps
  pub claims : (u : ℕ) → AreClaimsOf base (nth_log u logs)
      (filter (λ h. is_claim_for (base + u + 1) h.event) part)
  pub no_other : AllByRecursion (IsOfLog base) part
