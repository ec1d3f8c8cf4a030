use Rattle.std.proofs.Common.{arith}
use Rattle.aes_block.proofs.Schedule.{addend-at_constant}
use Rattle.aes_block.proofs.expansion.addend.Goals as goal

pub returns-then-i-key_words-eq0 : goal.returns-then-i-key_words-eq0
returns-then-i-key_words-eq0 c =
    addend-at_constant c.args.key_words c.args.i c.args.last _ _ _ (omega arith) c.if-i-key_words-eq0.true (omega (arith, c.requires.constants))
    c.rotate_left.ensures c.sub_word.ensures c.from_be_bytes.ensures
