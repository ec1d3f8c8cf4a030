-- How what is kept of a key and a sender is put.
use Rattle.std.specs.Prelude.{ℕ, ◌≡◌, ◌≢◌, List, Some}
use Rattle.std.specs.Map.{lookup}
use Rattle.std.specs.BTreeMap.{is_at}
use Rattle.lan_base.specs.declared.address.Sci.{Sci}
use Rattle.use_notes.specs.declared.frame.RightFrame.{RightFrame}
use Rattle.use_notes.specs.Uses.{use_cmp}
use Rattle.use_notes.specs.Standing.{KeptOfUse, Keeps}

-- what stands for these frames is found under a key and a sender, and what is found under others is
-- as it was
pub record IsPutAt (at : ℕ × Sci) (fs : List RightFrame) (old new : List ((ℕ × Sci) × KeptOfUse)) :
    Type 0 where
  pub kept : KeptOfUse
  pub here : lookup (is_at (use_cmp at)) new ≡ Some kept
  pub keeps : Keeps fs kept
  pub others : (other : ℕ × Sci) → other ≢ at
      → lookup (is_at (use_cmp other)) new ≡ lookup (is_at (use_cmp other)) old
