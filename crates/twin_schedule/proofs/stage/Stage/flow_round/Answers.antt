use Rattle.cak_roll.specs.declared.event.GroupNumber.TheVariants.{First, Second}
use Rattle.twin_schedule.specs.Acts.{seq}
use Rattle.twin_schedule.specs.Lines.{round, spread_group}
use Rattle.twin_schedule.proofs.Doing.{handed-on, then-err, then-ok}
use Rattle.twin_schedule.proofs.stage.Stage.flow_round.Goals as goal

pub returns-in_err-round : goal.returns-in_err-round
returns-in_err-round g c =
    handed-on _ _ _ _ _ (then-err round (seq (spread_group First) (spread_group Second)) _ _ _
    c.in_err-round.ensures) c.from_residual.ensures.1

pub returns-in_err-spread_group : goal.returns-in_err-spread_group
returns-in_err-spread_group g c =
    handed-on _ _ _ _ _ (then-ok round (seq (spread_group First) (spread_group Second)) _ _ _ _
    c.in_ok-round.ensures (then-err (spread_group First) (spread_group Second) _ _ _
    c.in_err-spread_group.ensures)) c.from_residual-in_err-spread_group.ensures.1

pub returns : goal.returns
returns g c =
    then-ok round (seq (spread_group First) (spread_group Second)) _ _ _ _ c.in_ok-round.ensures
    (then-ok (spread_group First) (spread_group Second) _ _ _ _ c.in_ok-spread_group.ensures
    c.spread_group-2.ensures)
