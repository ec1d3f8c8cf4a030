-- What one fact does to the reigns of stations.
use Rattle.std.specs.Prelude.{ℕ, ◌≡◌, ◌<◌, ◌≤◌, ◌++◌, ◌∷◌, Bool, All, IsTrue, is_some, map, length, List, []}
use Rattle.lan_core.specs.Run.{place}
use Rattle.lan_core.specs.declared.fact.Fact.{Fact}
use Rattle.lan_core.specs.declared.fact.Fact.TheVariants as shows
use Rattle.tick_columns.specs.Columns.{IsThinned, Columns}
use Rattle.key_spans.specs.declared.reign.Reign.{Reign}
use Rattle.key_spans.specs.Spans.{clock_after}
use Rattle.key_spans.specs.Reigns.{begun, crowned, is_over_by, member_after, ruled}
use Rattle.key_spans.specs.Courts.{KeptCourt, KeptReigns, begun_at, court_at}

abbrev pub IsOver : Reign → Type 0
IsOver reign = IsTrue (is_some reign.to)

abbrev pub AllOver : List Reign → Type 0
AllOver [] = Unit {0}
AllOver (reign ∷ later) = IsOver reign × AllOver later

-- only the last one may not be over
abbrev pub FrontOver : List Reign → Type 0
FrontOver [] = Unit {0}
FrontOver (reign ∷ []) = Unit {0}
FrontOver (reign ∷ (next ∷ later)) = IsOver reign × FrontOver (next ∷ later)

-- the reigns of a row at a time, none of which began later
pub record AreRuled (at : ℕ) (all : List Reign) : Type 0 where
  pub over : FrontOver all
  pub times : All (λ reign. reign.from ≤ at) all

-- the last reign of a row is over, or a fact is nothing to it
abbrev pub IsRuled : ℕ → Bool → Columns Reign → Columns Reign → Type 0
IsRuled at over old new = (all : List Reign) → AreRuled at all → IsThinned begun_at all old
    → IsThinned begun_at (map (ruled at over) all) new

-- a reign begins in a row, or none does
abbrev pub IsCrowned : ℕ → Bool → Columns Reign → Columns Reign → Type 0
IsCrowned at begins old new = (all : List Reign) → All (λ reign. reign.from ≤ at) all → IsThinned begun_at all old
    → IsThinned begun_at (all ++ crowned at begins) new

-- a station's reigns after a fact that it shows at this time
pub record IsCourtAfter (s at : ℕ) (fact : Fact) (old new : KeptCourt) : Type 0 where
  pub own_is : new.own ≡ member_after s old.own fact
  pub rows_are : (all : List Reign) → AreRuled at all → IsThinned begun_at all old.reigns
      → IsThinned begun_at (map (ruled at (is_over_by s fact)) all ++ begun s old.own at fact) new.reigns

-- those of each station after a fact
pub record AreCourtsAfter (fact : Fact) (old new : KeptReigns) : Type 0 where
  pub clock_is : new.clock ≡ clock_after old.clock fact
  pub courts_are : (s : ℕ)
      → IsCourtAfter s old.clock.ticks fact (court_at old.courts s) (court_at new.courts s)

-- the courts of nobody may have come
pub record AreCourtsAlike (old new : KeptReigns) : Type 0 where
  pub clock_is : new.clock ≡ old.clock
  pub courts_are : (s : ℕ) → court_at new.courts s ≡ court_at old.courts s

-- where a fact begins a life, its station has a court
abbrev pub HasCourt : Fact → KeptReigns → Type 0
HasCourt (shows.Life t mi) kept = t < length kept.courts
HasCourt _ kept = Unit {0}
