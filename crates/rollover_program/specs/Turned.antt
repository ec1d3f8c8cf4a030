-- In which turns an order is carried out that shows what it does as it goes, whatever the source tells.
use Rattle.std.specs.Prelude.{⊤, ◌≡◌, true, false, ℕ, List, Option, Result}
use Rattle.text_lines.specs.declared.unfinished.Unfinished.{Unfinished}
use Rattle.replay.specs.Turns.{PlaysInTurn}
use Rattle.replay.specs.OneGroup.{IsSettled, one_group, shown_by}
use Rattle.replay.specs.twin.TwoGroups.{transcript, two_groups}
use Rattle.twin_schedule.specs.Sound.{IsTidy}
use Rattle.transcript_capture.specs.declared.fault.LineFault.{LineFault}
use Rattle.transcript_capture.specs.Captures.{CapturesInTurn}
use Rattle.rollover_program.specs.declared.status.Status.{Status}
use Rattle.rollover_program.specs.declared.words.Order.{Order}
use Rattle.rollover_program.specs.declared.words.Order.TheVariants.{Run, Capture, Roll}
use Rattle.rollover_program.specs.Outside.{Outside}
use Rattle.rollover_program.specs.commands.Run.{Answers}
use Rattle.rollover_program.specs.commands.Capture.{status_of_capture}

-- What ends in what one read of the source gives is performed and shown before the next one, or captured and
-- written; and the status says how that ended. Of the orders that write at their end alone, or read nothing,
-- nothing is said.
abbrev pub ShowsInTurn : {S : Type 0} → (S → Option (List ℕ) → S → Type 0) → Order → S → S → Outside
    → Status → Type 0
ShowsInTurn Gave (Run false) s s_then o status =
    Answers (λ result. PlaysInTurn Gave one_group IsSettled (shown_by false) s s_then o.old o.new result)
    status
ShowsInTurn Gave Roll s s_then o status =
    Answers (λ result. PlaysInTurn Gave two_groups IsTidy transcript s s_then o.old o.new result) status
ShowsInTurn Gave Capture s s_then o status = (answer : Result (Unit {0}) (Unfinished LineFault))
    × CapturesInTurn Gave s s_then o.old.held o.new.held answer × (status ≡ status_of_capture answer)
ShowsInTurn Gave order s s_then o status = ⊤
