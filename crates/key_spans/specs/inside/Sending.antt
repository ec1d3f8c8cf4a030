-- What one fact does to the rows of claims and of refused sends.
use Rattle.std.specs.Prelude.{ℕ, ◌≡◌, ◌==◌, ◌≤◌, ◌++◌, ◌∷◌, if◌then◌else◌, All, List, []}
use Rattle.lan_base.specs.declared.association_number.AssociationNumber.{AssociationNumber}
use Rattle.lan_base.specs.declared.association_number.AssociationNumber.TheVariants.{An0, An1, An2, An3}
use Rattle.lan_core.specs.declared.fact.Fact.{Fact}
use Rattle.tick_columns.specs.Columns.{IsThinned, Columns}
use Rattle.key_spans.specs.declared.claim.Attempt.{Attempt}
use Rattle.key_spans.specs.Claims.{claimed, refused}
use Rattle.key_spans.specs.Sends.{KeptSends, Track, asked_at, track_at, track_in}

-- attempts came to a row at this time, whatever it had before
abbrev pub IsRowBehind : ℕ → List Attempt → Columns Attempt → Columns Attempt → Type 0
IsRowBehind at more old new = (all : List Attempt) → All (λ x. x.at ≤ at) all → IsThinned asked_at all old
    → IsThinned asked_at (all ++ more) new

-- an attempt came to the row of this place, and the others are as they were
pub record IsAddedAt (t : ℕ) (attempt : Attempt) (old new : Track) : Type 0 where
  pub rows_are : (s : ℕ) → IsRowBehind attempt.at (if t == s then attempt ∷ [] else []) (track_at old s) (track_at new s)

-- a claim came to the rows of its number, and all others are as they were
abbrev pub IsClaimed : AssociationNumber → ℕ → Attempt → KeptSends → KeptSends → Type 0
IsClaimed An0 t claim old new = IsAddedAt t claim old.an0 new.an0 × (new ≡ record old { an0 = new.an0 })
IsClaimed An1 t claim old new = IsAddedAt t claim old.an1 new.an1 × (new ≡ record old { an1 = new.an1 })
IsClaimed An2 t claim old new = IsAddedAt t claim old.an2 new.an2 × (new ≡ record old { an2 = new.an2 })
IsClaimed An3 t claim old new = IsAddedAt t claim old.an3 new.an3 × (new ≡ record old { an3 = new.an3 })

-- the rows of all stations after a fact of this time
pub record AreSendsAfter (at : ℕ) (fact : Fact) (old new : KeptSends) : Type 0 where
  pub clock_is : new.clock ≡ old.clock
  pub claims_are : (s : ℕ) (an : AssociationNumber) → IsRowBehind at (claimed s an at fact)
      (track_at (track_in old an) s) (track_at (track_in new an) s)
  pub refusals_are : (s : ℕ) → IsRowBehind at (refused s at fact) (track_at old.refused s) (track_at new.refused s)
