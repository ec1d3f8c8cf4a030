use Rattle.trace_text.proofs.Public.{roll_read_fits}
use Rattle.twin_schedule.proofs.LinesCome.{text-comes}
use Rattle.twin_schedule.proofs.Replaying.{does-by, halted-does, halted-stays}
use Rattle.twin_schedule.proofs.commands.TwinReplay.text.Goals as goal

pub returns-in-Some-clause-does : goal.returns-in-Some-clause-does
returns-in-Some-clause-does g c = halted-stays _ _ _ _ c.in-Some.halt c.in-Some.is

pub returns-in-Err-clause-does : goal.returns-in-Err-clause-does
returns-in-Err-clause-does g c =
    does-by _ _ _ _
    (text-comes (λ pair users t h run. c.law_group_runs_are_sound.ensures.legal pair users t h run)
    roll_read_fits c.args.text.now)
    (halted-does _ _ _ _ _ c.in-Err.halt c.in-Err.ensures)

pub returns-in_default-outcome-clause-does : goal.returns-in_default-outcome-clause-does
returns-in_default-outcome-clause-does g c =
    does-by _ _ _ _
    (text-comes (λ pair users t h run. c.law_group_runs_are_sound.ensures.legal pair users t h run)
    roll_read_fits c.args.text.now) c.perform_text-outcome.ensures
