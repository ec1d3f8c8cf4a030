use Rattle.std.proofs.Common.{◌∙◌, sym}
use Rattle.next_numbers.proofs.Counting.{tell-tick, told-other}
use Rattle.next_numbers.proofs.numbers.Numbers.follow.Goals as goal

pub returns-then-is_tick : goal.returns-then-is_tick
returns-then-is_tick c = λ settings r tell shows.
    tell-tick settings r _ c.args.event.now c.args.facts.now
    (sym c.is_tick.ensures ∙ c.if-is_tick.true) tell shows

pub returns : goal.returns
returns c = λ settings r tell shows.
    told-other settings r _ _ c.args.event.now c.args.facts.now c.follow_claim.result
    (sym c.is_tick.ensures ∙ c.if-is_tick.false) c.follow_claim.ensures tell
