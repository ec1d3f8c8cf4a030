use Rattle.std.proofs.Common.{ℕ, ◌+◌, arith}
use Rattle.cak_roll.specs.declared.event.GroupNumber.{GroupNumber}
use Rattle.twin_schedule.specs.Acts.{Act}
use Rattle.twin_schedule.specs.Lines.{spread}
use Rattle.twin_schedule.proofs.Doing.{in-turn, leads-start, span-end, span-exit, span-step}
use Rattle.twin_schedule.proofs.stage.Stage.spread_between.Goals as goal

abbrev one : GroupNumber → ℕ → Act
one group place = spread group (place + 1)

pub loop-place-init : goal.loop-place-init
loop-place-init g c = leads-start in-turn _ _

pub returns-in_err-spread : goal.returns-in_err-spread
returns-in_err-spread g c =
    span-exit (one c.args.group) c.loop-place.place c.args.count _ _ _ _ _ _ (omega arith)
    c.loop-place.invariant c.in_err-spread.ensures c.from_residual.ensures.1

pub loop-place-preserved : goal.loop-place-preserved
loop-place-preserved g c =
    span-step (one c.args.group) c.loop-place.place c.args.count _ _ _ _ (omega arith)
    c.loop-place.invariant c.in_ok-spread.ensures

pub returns : goal.returns
returns g c =
    span-end (one c.args.group) c.loop-place.place c.args.count _ _ _ (omega arith)
    c.loop-place.invariant
