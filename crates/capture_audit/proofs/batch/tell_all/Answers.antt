use Rattle.std.proofs.Common.{◌∙◌, ◌<◌, length, arith}
use Rattle.std.specs.Prelude.{map}
use Rattle.std.proofs.lemmas.List.{drop_all}
use Rattle.std.proofs.lemmas.Result.{err_from_is_err_and}
use Rattle.packet_verdicts.specs.Trials.{newest}
use Rattle.capture_audit.proofs.Loops.{element-drop, goes, is-done, stops}
use Rattle.capture_audit.proofs.batch.tell_all.Goals as goal

pub returns-in_err-tell-clause-tells : goal.returns-in_err-tell-clause-tells
returns-in_err-tell-clause-tells c = λ ring before packets keeps waits.
    let p = err_from_is_err_and c.from_residual.result c.from_residual.ensures.1 in
    let up = c.loop-each.invariant.3 ring before packets keeps waits in
    let lt : c.loop-each.each-index < length c.args.waiting.now = omega arith in
    rw (p.1, p.2) (stops c.args.asks ring before packets (map newest c.args.trials.now) c.args.waiting.now _
    c.loop-each.each-index c.each-item.result _ _ _ _ _ (element-drop c.args.waiting.now c.loop-each.each-index c.each-item.result lt c.each-item.is)
    (rw c.newest_at-newest.ensures at (c.in_err-tell.ensures.tells ring)) up)

pub loop-each-preserved : goal.loop-each-preserved
loop-each-preserved c =
    let was = c.loop-each.invariant in
    let one = c.in_ok-tell.ensures in
    let count = was.2 in
    let more = one.count in
    let lt : c.loop-each.each-index < length c.args.waiting.now = omega arith in (
      one.sound,
      one.groups ∙ was.1,
      omega (arith, count, more),
      λ ring before packets keeps waits.
          goes c.args.asks ring before packets (map newest c.args.trials.now) c.args.waiting.now c.loop-each.each-index
          c.each-item.result _ _ _ _ _ (element-drop c.args.waiting.now c.loop-each.each-index c.each-item.result lt c.each-item.is)
          (rw c.newest_at-newest.ensures at (one.tells ring)) (was.3 ring before packets keeps waits),
    )

pub returns-clause-tells : goal.returns-clause-tells
returns-clause-tells c = λ ring before packets keeps waits.
    is-done c.args.asks ring before packets (map newest c.args.trials.now) c.args.waiting.now c.loop-each.each-index _ _ _
    (drop_all c.loop-each.each-index c.args.waiting.now c.loop-each-test.false) (c.loop-each.invariant.3 ring before packets keeps waits)
