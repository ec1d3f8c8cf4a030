use Rattle.std.proofs.Common.{None, arith, sym, append-nil}
use Rattle.std.proofs.lemmas.Grind.{common_steps}
use Rattle.lan_core.specs.declared.event.Event.TheVariants as events
use Rattle.worker_races.specs.declared.merge.step.Step.{Step}
use Rattle.worker_races.proofs.weaving.Sweep.{controls-nil, controls_more}
use Rattle.worker_races.proofs.merge.merging.append_control.Goals as goal

pub loop-place-init : goal.loop-place-init
loop-place-init c = rw controls-nil (sym (append-nil _))

pub loop-place-preserved : goal.loop-place-preserved
loop-place-preserved c =
    let d : Step = record { event = events.Emit; before = None; after = None } in
    let m = controls_more c.args.steps.now c.loop-place.place d c.loop-place-test.true in
    grind (arith, common_steps, m)
