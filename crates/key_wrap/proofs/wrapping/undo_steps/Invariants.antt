use Rattle.key_wrap.proofs.Leading.{LeadsOn}
use Rattle.key_wrap.proofs.wrapping.undo_steps.Given as goal

abbrev pub invariant-loop-i : goal.invariant-loop-i
invariant-loop-i l = LeadsOn l.kek l.fn.state l.state l.count l.i
