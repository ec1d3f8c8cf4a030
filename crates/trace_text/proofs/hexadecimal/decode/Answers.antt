use Rattle.std.proofs.Common.{◌+◌, ◌*◌, ◌∙◌, arith}
use Rattle.std.specs.Prelude.{slice_index}
use Rattle.hex.proofs.HexLemmas.{decode_of-even}
use Rattle.hex.proofs.Pairs.{decode_start, decode_step, decode_done}
use Rattle.trace_text.proofs.Decoding.{digits_of, pair_read}
use Rattle.trace_text.proofs.hexadecimal.decode.Goals as goal

pub pairs-init : goal.pairs-init
pairs-init c = decode_start c.args.word.now c.args.octets.now

pub worth-requires : goal.worth-requires
worth-requires c = digits_of c.args.word.now c.requires.spelled (2 * c.pairs.i) 0 (omega arith)

pub worth-requires-in-pairs : goal.worth-requires-in-pairs
worth-requires-in-pairs c = digits_of c.args.word.now c.requires.spelled (2 * c.pairs.i + 1) 0 (omega arith)

pub pairs-preserved : goal.pairs-preserved
pairs-preserved c =
    decode_step _ _ c.pairs.i _ (omega arith) (omega arith)
    (pair_read (slice_index c.args.word.now (2 * c.pairs.i)) (slice_index c.args.word.now (2 * c.pairs.i + 1)) (2 * c.pairs.i) _ _ c.worth.ensures.value c.worth-in-pairs.ensures.value)
    c.pairs.invariant

pub returns : goal.returns
returns c =
    decode_of-even c.args.word.now (omega arith)
    ∙ decode_done _ c.pairs.octets c.pairs.i (omega arith) (omega arith) c.pairs.invariant
