-- What the rows of all stations say of the facts so far.
use Rattle.std.specs.Prelude.{ℕ, ◌≡◌, List, Option, Some, None, slice_get}
use Rattle.lan_base.specs.declared.association_number.AssociationNumber.{AssociationNumber}
use Rattle.lan_base.specs.declared.association_number.AssociationNumber.TheVariants.{An0, An1, An2, An3}
use Rattle.lan_core.specs.declared.fact.Fact.{Fact}
use Rattle.tick_columns.specs.Columns.{IsThinned, Columns, no_columns}
use Rattle.key_spans.specs.declared.clock.Clock.{Clock}
use Rattle.key_spans.specs.declared.span.Span.{Span}
use Rattle.key_spans.specs.Spans.{clock, spans, start}

-- spans lie in the columns of their installs
abbrev pub installed_at : Span → ℕ
installed_at span = span.installed

-- what a row shows, where there is one
abbrev pub shown : Option (Columns Span) → Columns Span
shown None = no_columns
shown (Some row) = row

-- the columns under each number of one station
pub record Rows : Type 0 where
  pub an0 : Columns Span
  pub an1 : Columns Span
  pub an2 : Columns Span
  pub an3 : Columns Span

abbrev pub no_rows : Rows
no_rows = record { an0 = no_columns; an1 = no_columns; an2 = no_columns; an3 = no_columns }

abbrev pub row_in : Rows → AssociationNumber → Columns Span
row_in rows An0 = rows.an0
row_in rows An1 = rows.an1
row_in rows An2 = rows.an2
row_in rows An3 = rows.an3

-- those of all stations by place, and the clock
pub record KeptSpans : Type 0 where
  pub clock : Clock
  pub lanes : List Rows

abbrev pub row_of : Option Rows → AssociationNumber → Columns Span
row_of None an = no_columns
row_of (Some rows) an = row_in rows an

abbrev pub row_at : List Rows → ℕ → AssociationNumber → Columns Span
row_at lanes s an = row_of (slice_get lanes s) an

-- the clock is that of the facts, and each row has their spans in few columns
pub record StandsFor (facts : List Fact) (kept : KeptSpans) : Type 0 where
  pub clock_is : kept.clock ≡ clock start facts
  pub rows_are : (s : ℕ) (an : AssociationNumber)
      → IsThinned installed_at (spans s an facts) (row_at kept.lanes s an)
