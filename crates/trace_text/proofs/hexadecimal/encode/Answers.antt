use Rattle.std.proofs.Common.{arith}
use Rattle.hex.proofs.Pairs.{encode_step, encode_done}
use Rattle.trace_text.proofs.hexadecimal.encode.Goals as goal

pub pairs-preserved : goal.pairs-preserved
pairs-preserved c =
    encode_step _ c.args.octets.now c.pairs.digits c.pairs.i _ _ (omega arith) (omega arith)
    c.digit.ensures c.digit-in-pairs.ensures c.pairs.invariant

pub returns : goal.returns
returns c =
    encode_done _ _ _ c.pairs.i (omega arith) (omega arith) c.pairs.invariant
