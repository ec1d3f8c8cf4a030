use Rattle.std.proofs.Common.{sym, ap, ◌∙◌, ◌+◌}
use Rattle.key_wrap.specs.Wrap.{step}
use Rattle.key_wrap.proofs.Steps.{steps-none, steps-more}
use Rattle.key_wrap.proofs.wrapping.take_steps.Goals as goal

pub loop-i-init : goal.loop-i-init
loop-i-init c = sym (steps-none c.args.kek.now c.args.state.now)

pub loop-i-preserved : goal.loop-i-preserved
loop-i-preserved c =
    let kek = c.args.kek.now in
    let i = c.loop-i.i in
    c.step.ensures ∙ ap (λ s. step kek s (i + 1)) c.loop-i.invariant ∙ sym (steps-more kek c.args.state.now i)
