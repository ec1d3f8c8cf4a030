use Rattle.aes_block.proofs.RoundKeys.{AreKeptBelow}
use Rattle.aes_block.proofs.key.Key.prepared.Given as goal

abbrev pub invariant-loop-i : goal.invariant-loop-i
invariant-loop-i l = AreKeptBelow l.expanded l.rounds l.i l.rows
