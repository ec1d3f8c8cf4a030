use Rattle.std.proofs.Common.{refl}
use Rattle.twin_schedule.proofs.Doing.{memory-any}
use Rattle.twin_schedule.proofs.stage.Stage.send_body.Goals as goal

pub returns-in_err-copied : goal.returns-in_err-copied
returns-in_err-copied g c = memory-any _ _ _ _ refl refl c.from_residual.ensures.1
