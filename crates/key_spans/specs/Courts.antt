-- What is kept of the reigns of stations, in few columns.
use Rattle.std.specs.Prelude.{ℕ, ◌≡◌, List, slice_get, Option, Some, None}
use Rattle.lan_base.specs.declared.address.Mi.{Mi}
use Rattle.lan_core.specs.declared.fact.Fact.{Fact}
use Rattle.tick_columns.specs.Columns.{IsThinned, Columns, no_columns}
use Rattle.key_spans.specs.declared.clock.Clock.{Clock}
use Rattle.key_spans.specs.declared.reign.Reign.{Reign}
use Rattle.key_spans.specs.Spans.{clock, start}
use Rattle.key_spans.specs.Reigns.{member_from, reigns}

-- reigns lie in the columns of their begins
abbrev pub begun_at : Reign → ℕ
begun_at reign = reign.from

-- the member of a station's life, and its reigns
pub record KeptCourt : Type 0 where
  pub own : Option Mi
  pub reigns : Columns Reign

abbrev pub no_court : KeptCourt
no_court = record { own = None; reigns = no_columns }

abbrev pub or_none : Option KeptCourt → KeptCourt
or_none None = no_court
or_none (Some court) = court

abbrev pub court_at : List KeptCourt → ℕ → KeptCourt
court_at courts s = or_none (slice_get courts s)

-- those of all stations by place, and the clock
pub record KeptReigns : Type 0 where
  pub clock : Clock
  pub courts : List KeptCourt

-- they are those of these facts
pub record AreReignsOf (facts : List Fact) (kept : KeptReigns) : Type 0 where
  pub clock_is : kept.clock ≡ clock start facts
  pub members_are : (s : ℕ) → (court_at kept.courts s).own ≡ member_from s None facts
  pub rows_are : (s : ℕ) → IsThinned begun_at (reigns s facts) (court_at kept.courts s).reigns

-- what a row shows, where there is one
abbrev pub shown_reigns : Option (Columns Reign) → Columns Reign
shown_reigns None = no_columns
shown_reigns (Some row) = row
