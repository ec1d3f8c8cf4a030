use Rattle.std.proofs.Common.{refl}
use Rattle.twin_schedule.specs.Lines.{act_of}
use Rattle.twin_schedule.proofs.Replaying.{numbered-does}
use Rattle.twin_schedule.proofs.commands.TwinReplay.perform_line.Goals as goal

pub returns : goal.returns
returns g c =
    numbered-does c.args.number (act_of c.args.line.now) _ _ _ _ c.begin_line.ensures refl
    c.perform.ensures
