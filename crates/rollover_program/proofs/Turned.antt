-- In which turns a trace is performed, with a summary or without.
use Rattle.std.proofs.Common.{◌≡◌, Bool, true, false, ℕ, List, Option, Result, refl}
use Rattle.text_lines.specs.declared.reading.End.{End}
use Rattle.trace_acts.specs.declared.halt.Halt.{Halt}
use Rattle.replay.specs.Turns.{PlaysInTurn}
use Rattle.replay.specs.OneGroup.{IsSettled, one_group, shown_by}
use Rattle.rollover_program.specs.declared.status.Status.{Status}
use Rattle.rollover_program.specs.declared.words.Order.TheVariants.{Run}
use Rattle.rollover_program.specs.Outside.{Outside}
use Rattle.rollover_program.specs.commands.Run.{status_of_replay}
use Rattle.rollover_program.specs.Turned.{ShowsInTurn}

pub run_turned : {S : Type 0} (Gave : S → Option (List ℕ) → S → Type 0) (summary : Bool) (s s_then : S)
    (o : Outside) (result : Result (Unit {0}) (End Halt)) (status : Status)
    → (summary ≡ false
    → PlaysInTurn Gave one_group IsSettled (shown_by false) s s_then o.old o.new result)
    → status ≡ status_of_replay result → ShowsInTurn Gave (Run summary) s s_then o status
run_turned Gave true s s_then o result status turned is = tt
run_turned Gave false s s_then o result status turned is = (result, turned refl, is)
