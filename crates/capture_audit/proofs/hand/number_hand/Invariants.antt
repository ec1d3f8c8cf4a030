use Rattle.capture_audit.proofs.Numbering.{IsNumberedTo}
use Rattle.capture_audit.proofs.hand.number_hand.Given as goal

abbrev pub invariant-loop-key : goal.invariant-loop-key
invariant-loop-key l = IsNumberedTo l.hand l.key-index l.known l.numbered.items
