use Rattle.std.proofs.Common.{arith, ap, length, ◌∙◌, sym}
use Rattle.lan_schedule.proofs.Controlling.{control-step, control-err, control-end}
use Rattle.lan_schedule.proofs.Doing.{in-turn, leads-start}
use Rattle.lan_schedule.proofs.stage.Stage.control.Goals as goal

pub loop-kept-init : goal.loop-kept-init
loop-kept-init g c =
    let began = c.into_iter-kept-iterator.ensures.into_iter_gives in
    let long = ap length began.0 in
    (rw began.0 (leads-start in-turn _ _), omega (arith, began.1, long))

pub returns-in_err-controlled : goal.returns-in_err-controlled
returns-in_err-controlled g c =
    control-err _ _ c.in-Some.kept _ _ _ _ _ _ c.in-Some.ensures.steps.0 c.loop-kept.invariant.0
    c.in_err-controlled.ensures c.from_residual.ensures.1

pub loop-kept-preserved : goal.loop-kept-preserved
loop-kept-preserved g c = (
  control-step _ _ c.in-Some.kept _ _ _ _ c.in-Some.ensures.steps.0 c.loop-kept.invariant.0
      c.in_ok-controlled.ensures,
  let was = c.loop-kept.invariant.1 in
      let gone = c.in-Some.ensures.steps.1 in
      let short = ap length c.in-Some.ensures.steps.0 in
      omega arith,
)

pub returns : goal.returns
returns g c = control-end _ _ _ _ (sym c.in-None.ensures.steps.0 ∙ c.loop-kept.invariant.1)
    c.loop-kept.invariant.0
