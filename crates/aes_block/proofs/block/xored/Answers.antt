use Rattle.std.proofs.Common.{arith}
use Rattle.aes_block.proofs.Sums.{same_sum}
use Rattle.aes_block.proofs.block.xored.Goals as goal

pub returns : goal.returns
returns c =
    let inv = c.loop-i.invariant in
    same_sum c.loop-i.sum c.args.a.now c.args.b.now (omega arith) (omega arith) (λ k h. inv.1 k (omega arith))
