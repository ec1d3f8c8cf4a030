use Rattle.std.proofs.Common.{refl}
use Rattle.twin_schedule.proofs.Doing.{handed-on}
use Rattle.twin_schedule.proofs.Moving.{over-does, send-does, send-new-does}
use Rattle.twin_schedule.proofs.stage.Stage.send.Goals as goal

pub returns-in_err-number : goal.returns-in_err-number
returns-in_err-number g c =
    handed-on _ _ _ _ _ (over-does c.args.station c.args.user.now _ _ _ c.in_err-number.ensures.over.0
    c.in_err-number.ensures.over.1 refl) c.from_residual.ensures.1

pub returns : goal.returns
returns g c =
    let left = c.in_ok-number.ensures.number in
    send-new-does c.args.station c.args.user.now _ _ _ left.0
    (send-does c.args.station c.in_ok-number.number c.args.user.now _ _ _ _ left.2 refl left.1
    c.happen.ensures)
