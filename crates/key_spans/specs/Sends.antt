-- What is kept of claims and of refused sends, in few columns.
use Rattle.std.specs.Prelude.{ℕ, ◌≡◌, List, slice_get, Option, Some, None}
use Rattle.lan_base.specs.declared.association_number.AssociationNumber.{AssociationNumber}
use Rattle.lan_base.specs.declared.association_number.AssociationNumber.TheVariants.{An0, An1, An2, An3}
use Rattle.lan_core.specs.declared.fact.Fact.{Fact}
use Rattle.tick_columns.specs.Columns.{IsThinned, Columns, no_columns}
use Rattle.key_spans.specs.declared.claim.Attempt.{Attempt}
use Rattle.key_spans.specs.declared.clock.Clock.{Clock}
use Rattle.key_spans.specs.Spans.{clock, start}
use Rattle.key_spans.specs.Claims.{claims, refusals}

-- attempts lie in the columns of their times
abbrev pub asked_at : Attempt → ℕ
asked_at attempt = attempt.at

abbrev pub Track : Type 0
Track = List (Columns Attempt)

-- what a row shows, where there is one
abbrev pub or_bare : Option (Columns Attempt) → Columns Attempt
or_bare None = no_columns
or_bare (Some row) = row

-- the row of a station, of those of all by place
abbrev pub track_at : Track → ℕ → Columns Attempt
track_at track s = or_bare (slice_get track s)

-- the claims under each number, the refused sends, and the clock
pub record KeptSends : Type 0 where
  pub clock : Clock
  pub an0 : Track
  pub an1 : Track
  pub an2 : Track
  pub an3 : Track
  pub refused : Track

abbrev pub track_in : KeptSends → AssociationNumber → Track
track_in kept An0 = kept.an0
track_in kept An1 = kept.an1
track_in kept An2 = kept.an2
track_in kept An3 = kept.an3

-- they are those of these facts
pub record AreSendsOf (facts : List Fact) (kept : KeptSends) : Type 0 where
  pub clock_is : kept.clock ≡ clock start facts
  pub claims_are : (s : ℕ) (an : AssociationNumber)
      → IsThinned asked_at (claims s an facts) (track_at (track_in kept an) s)
  pub refusals_are : (s : ℕ) → IsThinned asked_at (refusals s facts) (track_at kept.refused s)
