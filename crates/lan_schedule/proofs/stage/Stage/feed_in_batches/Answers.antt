use Rattle.std.proofs.Common.{◌+◌, ◌-◌, arith}
use Rattle.lan_schedule.proofs.Batching.{reaching, batch-start, batch-step, batch-exit, batch-wanting, batch-end}
use Rattle.lan_schedule.proofs.stage.Stage.feed_in_batches.Goals as goal

pub loop-behind-init : goal.loop-behind-init
loop-behind-init g c = rw c.new-ahead.ensures
    (batch-start (reaching c.args.first c.args.station) (c.args.last + 1 - c.args.first) c.args.first
    c.args.station _)

pub returns-in_err-look_ahead : goal.returns-in_err-look_ahead
returns-in_err-look_ahead g c =
    batch-wanting _ _ _ _ _ _ c.loop-behind.invariant c.from_residual.ensures.1

pub returns-in_err-arrive : goal.returns-in_err-arrive
returns-in_err-arrive g c =
    batch-exit c.args.first c.args.station c.loop-behind.behind (c.args.last + 1 - c.args.first) _ _ _ _
    c.loop-behind.ahead c.look_ahead.new.ahead _ _ (omega arith) c.in_ok-look_ahead.ensures
    c.loop-behind.invariant (rw c.next-checked.ensures.0 at c.in_err-arrive.ensures)
    c.from_residual-in_err-arrive.ensures.1

pub loop-behind-preserved : goal.loop-behind-preserved
loop-behind-preserved g c = rw c.next-checked.ensures.1
    (batch-step c.args.first c.args.station c.loop-behind.behind (c.args.last + 1 - c.args.first) _ _
    _ _ c.loop-behind.ahead c.look_ahead.new.ahead (omega arith)
    c.law_what_was_checked_stays_checked.ensures.later c.in_ok-look_ahead.ensures
    c.loop-behind.invariant (rw c.next-checked.ensures.0 at c.in_ok-arrive.ensures))

pub returns : goal.returns
returns g c = batch-end _ (reaching c.args.first c.args.station) c.loop-behind.behind
    (c.args.last + 1 - c.args.first) _ _ _ (omega arith) c.loop-behind.invariant
