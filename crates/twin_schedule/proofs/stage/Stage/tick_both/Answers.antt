use Rattle.cak_roll.specs.declared.event.GroupNumber.TheVariants.{First, Second}
use Rattle.twin_schedule.specs.Lines.{tick_in}
use Rattle.twin_schedule.proofs.Doing.{handed-on, then-err, then-ok}
use Rattle.twin_schedule.proofs.stage.Stage.tick_both.Goals as goal

pub returns-in_err-tick_in : goal.returns-in_err-tick_in
returns-in_err-tick_in g c =
    handed-on _ _ _ _ _ (then-err (tick_in First c.args.station) (tick_in Second c.args.station) _ _
    _ c.in_err-tick_in.ensures) c.from_residual.ensures.1

pub returns : goal.returns
returns g c =
    then-ok (tick_in First c.args.station) (tick_in Second c.args.station) _ _ _ _
    c.in_ok-tick_in.ensures c.tick_in-2.ensures
