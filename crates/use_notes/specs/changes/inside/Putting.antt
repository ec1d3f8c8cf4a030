-- How what is kept of a sender is put.
use Rattle.std.specs.Prelude.{◌≡◌, ◌≢◌, List, Some}
use Rattle.std.specs.Map.{lookup}
use Rattle.std.specs.BTreeMap.{is_at}
use Rattle.lan_base.specs.declared.address.Sci.{Sci}
use Rattle.use_notes.specs.declared.frame.RightFrame.{RightFrame}
use Rattle.use_notes.specs.changes.Changes.{sci_cmp}
use Rattle.use_notes.specs.changes.Standing.{KeptOfSender, Keeps, Senders}

-- what stands for these frames is found under a sender, and what is found under others is as it was
pub record IsPutAt (at : Sci) (fs : List RightFrame) (old new : Senders) : Type 0 where
  pub kept : KeptOfSender
  pub here : lookup (is_at (sci_cmp at)) new ≡ Some kept
  pub keeps : Keeps fs kept
  pub others : (other : Sci) → other ≢ at
      → lookup (is_at (sci_cmp other)) new ≡ lookup (is_at (sci_cmp other)) old
