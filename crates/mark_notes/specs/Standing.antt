-- What is kept of givings and of reused packets.
use Rattle.std.specs.Prelude.{ℕ, ◌≡◌, List, [], Option, Some, None}
use Rattle.std.specs.Map.{lookup}
use Rattle.std.specs.BTreeMap.{is_at}
use Rattle.std.specs.Ordering.{nat_cmp}
use Rattle.std.specs.Cmp.Lexicographic.{slice_cmp}
use Rattle.std.specs.declared.cmp.Ordering.{Ordering}
use Rattle.lan_base.specs.declared.address.Sci.{Sci}
use Rattle.tick_columns.specs.Columns.{IsThinned, Columns}
use Rattle.mark_notes.specs.declared.giving.Giving.{Giving}
use Rattle.mark_notes.specs.declared.reuse.Reuse.{Reuse}
use Rattle.mark_notes.specs.Marks.{first_giving, reuses_of}

abbrev pub sci_cmp : Sci → Sci → Ordering
sci_cmp a b = slice_cmp nat_cmp a.0 b.0

-- by key its first giving, and by sender the columns of its reused packets
pub record KeptMarks : Type 0 where
  pub givings : List (ℕ × Giving)
  pub senders : List (Sci × Columns Reuse)

-- these packets in columns; none where there is no column
abbrev pub KeepsReuses : List Reuse → Option (Columns Reuse) → Type 0
KeepsReuses rs None = rs ≡ []
KeepsReuses rs (Some columns) = IsThinned (λ r. r.packet) rs columns

pub record StandsFor (gs : List Giving) (rs : List Reuse) (kept : KeptMarks) : Type 0 where
  pub givings : (key : ℕ) → lookup (is_at (nat_cmp key)) kept.givings ≡ first_giving gs key
  pub senders : (sci : Sci) → KeepsReuses (reuses_of sci rs) (lookup (is_at (sci_cmp sci)) kept.senders)
