use Rattle.std.proofs.Common.{◌+◌, ◌-◌, ℕ, arith}
use Rattle.lan_core.specs.declared.event.Event.TheVariants.{Deliver}
use Rattle.lan_schedule.specs.Acts.{Act, happen}
use Rattle.lan_schedule.proofs.Doing.{in-turn, span-start, span-step, span-exit, span-end}
use Rattle.lan_schedule.proofs.stage.Stage.feed.Goals as goal

abbrev one : ℕ → ℕ → ℕ → Act
one first s k = happen (Deliver (first + k) s)

pub loop-behind-init : goal.loop-behind-init
loop-behind-init g c =
    span-start in-turn (one c.args.first c.args.station) (c.args.last + 1 - c.args.first) _

pub returns-in_err-deliver : goal.returns-in_err-deliver
returns-in_err-deliver g c =
    span-exit (one c.args.first c.args.station) c.loop-behind.behind
    (c.args.last + 1 - c.args.first) _ _ _ _ _ _ (omega arith)
    c.loop-behind.invariant
    c.in_err-deliver.ensures c.from_residual.ensures.1

pub loop-behind-preserved : goal.loop-behind-preserved
loop-behind-preserved g c =
    span-step (one c.args.first c.args.station) c.loop-behind.behind
    (c.args.last + 1 - c.args.first) _ _ _ _ (omega arith)
    c.loop-behind.invariant
    c.in_ok-deliver.ensures

pub returns : goal.returns
returns g c = span-end (one c.args.first c.args.station) c.loop-behind.behind
    (c.args.last + 1 - c.args.first) _ _ _ (omega arith) c.loop-behind.invariant
