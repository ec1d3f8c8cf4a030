use Rattle.std.proofs.Common.{◌≡◌, ◌++◌, map}
use Rattle.std.specs.Prelude.{take}
use Rattle.use_notes.specs.changes.Standing.{change_told}
use Rattle.use_notes.proofs.changes.notes.append.Given as goal

abbrev pub invariant-loop-handover : goal.invariant-loop-handover
invariant-loop-handover l =
    l.changes.items ≡ l.initial.changes.items ++ map (change_told l.sci) (take l.handover-index l.handovers)
