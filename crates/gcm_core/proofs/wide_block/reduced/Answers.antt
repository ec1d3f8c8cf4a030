use Rattle.std.proofs.Common.{arith}
use Rattle.gcm_core.proofs.Fallen.{reduced_is}
use Rattle.gcm_core.proofs.wide_block.reduced.Goals as goal

pub returns : goal.returns
returns c = reduced_is c.args.low c.args.high (omega arith)
