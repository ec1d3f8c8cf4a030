use Rattle.std.proofs.Common.{arith}
use Rattle.aes_cmac.proofs.Doubling.{doubled_bits-is}
use Rattle.aes_cmac.proofs.block.doubled_bits.Goals as goal

pub returns : goal.returns
returns c = doubled_bits-is c.args.bits (omega arith)
