use Rattle.std.proofs.Common.{◌≡◌}
use Rattle.key_wrap.specs.Wrap.{steps}
use Rattle.key_wrap.proofs.wrapping.take_steps.Given as goal

abbrev pub invariant-loop-i : goal.invariant-loop-i
invariant-loop-i l = l.state ≡ steps l.kek l.fn.state l.i
