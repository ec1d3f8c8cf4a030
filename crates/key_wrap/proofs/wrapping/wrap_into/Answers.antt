use Rattle.std.proofs.Common.{◌≡◌, ◌++◌, length, sym, ap, ◌∙◌, arith}
use Rattle.key_wrap.specs.Wrap.{initial_value, steps}
use Rattle.key_wrap.proofs.Unwrapping.{put_together, wrapped-steps}
use Rattle.key_wrap.proofs.wrapping.wrap_into.Goals as goal

pub returns : goal.returns
returns c =
    let first = c.copy_from_slice.new.self in
    let key = c.copy_from_slice-2.new.self in
    let initial : first ≡ initial_value = c.copy_from_slice.ensures.after ∙ c.to_be_bytes.ensures in
    let after = c.copy_from_slice-2.ensures.after in
    c.take_steps.ensures
    ∙ ap (λ s. steps c.args.kek.now s c.step_count.result)
    (put_together c.args.state.now first key (ap length initial) (omega (arith, c.requires.room, ap length after)) ∙ (λ i. initial i ++ after i))
    ∙ sym (wrapped-steps c.args.kek.now c.args.sak.now c.step_count.result c.step_count.ensures)
