use Rattle.std.proofs.Common.{inl, inr, ◌∙◌}
use Rattle.cak_roll.specs.Stepping.{twin_stop}
use Rattle.cak_roll.proofs.Performing.{performs-in-time, performs-by-two, spent-by-two, turn-refused}
use Rattle.cak_roll.proofs.Performing.{alone-in-time}
use Rattle.cak_roll.proofs.Restarts.{both-restart}
use Rattle.cak_roll.proofs.twin.Twin.perform_parts.Goals as goal

pub returns-then-is_alone-clause-turns : goal.returns-then-is_alone-clause-turns
returns-then-is_alone-clause-turns g c pair users t event both suites first second one two none draws =
    performs-in-time pair users t event (g.D.Draws.nth c.args.draws.now) suites draws _ _ _
    (alone-in-time pair t event (g.D.Draws.nth c.args.draws.now) _ _ first second
    (c.is_alone.ensures.0 c.if-is_alone.true))
    (c.turn.ensures.turns pair users t event both suites first second one two none)

pub returns-in_err-taken-clause-turns : goal.returns-in_err-taken-clause-turns
returns-in_err-taken-clause-turns g c pair users t event both suites first second one two none draws =
    let before = g.D.Draws.nth c.args.draws.now in
    let restarts = both-restart pair t event
    (λ none. let yes = c.is_alone.ensures.1 (inl (first ∙ none)) in cc (yes, c.if-is_alone.false))
    (λ none. let yes = c.is_alone.ensures.1 (inr (second ∙ none)) in cc (yes, c.if-is_alone.false))
    in
    turn-refused (twin_stop pair users t event before) pair users t event before _ _ _ _
    c.from_residual.ensures.1
    (spent-by-two pair users t event before suites draws restarts.0 restarts.1 _
    c.in_err-taken.ensures.spent)

pub returns-clause-turns : goal.returns-clause-turns
returns-clause-turns g c pair users t event both suites first second one two none draws =
    let before = g.D.Draws.nth c.args.draws.now in
    let restarts = both-restart pair t event
    (λ none. let yes = c.is_alone.ensures.1 (inl (first ∙ none)) in cc (yes, c.if-is_alone.false))
    (λ none. let yes = c.is_alone.ensures.1 (inr (second ∙ none)) in cc (yes, c.if-is_alone.false))
    in
    performs-by-two pair users t event before suites draws restarts.0 restarts.1 _ _ _ _ _
    c.in_ok-taken.ensures.next c.in_ok-taken.ensures.taken c.in_ok-taken.ensures.enough
    (c.turn-2.ensures.turns pair users t event both suites first second one two none)
