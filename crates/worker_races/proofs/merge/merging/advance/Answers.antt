use Rattle.std.proofs.Common.{arith, sym, ap, ◌∙◌}
use Rattle.worker_races.specs.merge.Places.{ends}
use Rattle.worker_races.specs.merge.Steps.{attempt_of, move_of}
use Rattle.worker_races.proofs.weaving.Sweep.{place_within, place_found, place_later}
use Rattle.worker_races.proofs.merge.merging.advance.Goals as goal

pub returns-then-is_end : goal.returns-then-is_end
returns-then-is_end c low =
    let x = attempt_of 0 c.args.entry.now in
    sym (place_found x c.args.steps.now c.loop-at.at c.index-steps-at.result c.loop-at-test.true (c.loop-at.invariant low)
    (ap (λ s. ends x (move_of s)) (sym c.index-steps-at.is) ∙ (sym c.is_end.ensures ∙ c.if-is_end.true)))

pub loop-at-preserved : goal.loop-at-preserved
loop-at-preserved c low =
    let x = attempt_of 0 c.args.entry.now in
    let h = place_later x c.args.steps.now c.loop-at.at c.index-steps-at.result c.loop-at-test.true (c.loop-at.invariant low)
    (ap (λ s. ends x (move_of s)) (sym c.index-steps-at.is) ∙ (sym c.is_end.ensures ∙ c.if-is_end.false)) in
    omega (arith, h)

pub returns : goal.returns
returns c low =
    let h = place_within (attempt_of 0 c.args.entry.now) c.args.steps.now in
    let k = c.loop-at.invariant low in
    let l = c.loop-at-test.false in
    omega (arith, h, k, l)
