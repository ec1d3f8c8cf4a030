use Rattle.std.proofs.Common.{◌+◌, ◌<◌, length, arith}
use Rattle.lan_core.proofs.SlotsFollow.{count-next, count-up-to, no_change}
use Rattle.lan_core.proofs.following.installs_after.Goals as goal

pub overflow_add-count : goal.overflow_add-count
overflow_add-count c =
    let here : c.loop-change.change-index < length c.args.changes.now = omega (arith, c.loop-change-test.true) in
    omega (
      arith,
      c.requires,
      c.loop-change.invariant,
      c.installs_one-count.ensures,
      count-next c.args.changes.now c.loop-change.change-index no_change here,
      count-up-to c.args.changes.now (c.loop-change.change-index + 1),
    )

pub loop-change-preserved : goal.loop-change-preserved
loop-change-preserved c =
    let here : c.loop-change.change-index < length c.args.changes.now = omega (arith, c.loop-change-test.true) in
    omega (arith, c.loop-change.invariant, c.installs_one-count.ensures, count-next c.args.changes.now c.loop-change.change-index no_change here)
