use Rattle.std.proofs.Common.{◌≡◌, ◌≢◌, ◌≤◌, ◌+◌, ◌∙◌, ℕ, List, Some, ap, arith, drop, length, subst, sym}
use Rattle.capture_packets.specs.Numbers.{half_at, padded}
use Rattle.capture_packets.proofs.OptionSteps.{HasTicks, at-end, last-option, next-option}
use Rattle.capture_packets.proofs.options.read_ticks.Goals as goal

pub returns-then-half-eq0 : goal.returns-then-half-eq0
returns-then-half-eq0 c =
    let some : length c.loop-rest.rest.now ≢ 0 = grind (arith, c.is_empty.ensures, c.loop-rest-test.true) in
    last-option c.args.order c.args.options.now c.loop-rest.rest.now c.loop-rest.ticks c.loop-rest.invariant
    some c.if-rest-lt-OPTION_LEN.false (sym c.half.ensures ∙ c.if-half-eq0.true)

pub loop-rest-preserved : goal.loop-rest-preserved
loop-rest-preserved c =
    let order = c.args.order in
    let rest = c.loop-rest.rest.now in
    let some : length rest ≢ 0 = grind (arith, c.is_empty.ensures, c.loop-rest-test.true) in
    let value = c.option_len-count.ensures.value in
    let is = c.split_at.ensures.back ∙ ap (λ (k : ℕ). drop k rest) value in
    let more : half_at order 0 rest ≢ 0 = λ none. c.if-half-eq0.false (c.half.ensures ∙ none) in
    let whole : 4 + padded (half_at order 2 rest) ≤ length rest = omega (arith, value, c.if-rest-count.false) in
    let told : c.ticks_by.result ≡ Some c.in_ok-ticks.ticks = c.in_ok-ticks.was in
    subst (λ (l : List ℕ). HasTicks order c.args.options.now l c.in_ok-ticks.ticks) (sym is)
    (next-option order c.args.options.now rest c.loop-rest.ticks c.in_ok-ticks.ticks c.loop-rest.invariant
    some c.if-rest-lt-OPTION_LEN.false more whole (sym c.ticks_by.ensures ∙ told))

pub returns : goal.returns
returns c =
    let none : length c.loop-rest.rest.now ≡ 0 = grind (arith, c.is_empty.ensures, c.loop-rest-test.false) in
    at-end c.args.order c.args.options.now c.loop-rest.rest.now c.loop-rest.ticks c.loop-rest.invariant none
