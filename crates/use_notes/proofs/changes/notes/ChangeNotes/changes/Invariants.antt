use Rattle.std.proofs.Common.{◌≡◌, ◌++◌}
use Rattle.std.specs.Prelude.{flat_map}
use Rattle.use_notes.proofs.changing.Listing.{told_at}
use Rattle.use_notes.proofs.changes.notes.ChangeNotes.changes.Given as goal

abbrev pub invariant-loop-sci : goal.invariant-loop-sci
invariant-loop-sci l = l.changes.items ++ flat_map told_at l.sci-iterator ≡ flat_map told_at l.self
