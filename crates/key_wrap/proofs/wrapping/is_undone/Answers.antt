use Rattle.std.proofs.Common.{◌≡◌, ◌++◌, ap, take, drop, rules}
use Rattle.key_wrap.specs.Wrap.{initial_value}
use Rattle.key_wrap.proofs.Unwrapping.{start_is, is_wrapped}
use Rattle.key_wrap.proofs.wrapping.is_undone.Goals as goal

pub returns-clause-wrap : goal.returns-clause-wrap
returns-clause-wrap c = λ yes.
    is_wrapped c.args.kek.now c.args.state.now c.undo_steps.new.state c.step_count.result (search rules) c.undo_steps.ensures.undone
    (c.is_initial.ensures.0 yes)

pub returns-clause-only : goal.returns-clause-only
returns-clause-only c = λ sak n l o e.
    let state = c.undo_steps.new.state in
    let is : state ≡ initial_value ++ sak =
    start_is c.args.kek.now c.args.state.now state n c.step_count.result l (search rules) c.undo_steps.ensures.only sak o e in
    (c.is_initial.ensures.1 (ap (take 8) is), ap (drop 8) is)
