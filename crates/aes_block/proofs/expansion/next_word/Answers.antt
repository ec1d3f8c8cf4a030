use Rattle.std.proofs.Common.{arith}
use Rattle.aes_block.specs.Expansion.{expansion}
use Rattle.aes_block.proofs.Schedule.{next_word-after, next_word-own}
use Rattle.aes_block.proofs.expansion.next_word.Goals as goal

pub returns-then-i-key_words : goal.returns-then-i-key_words
returns-then-i-key_words c =
    let octets = c.args.octets.now in
    next_word-own octets (expansion octets c.args.i) c.as_chunks.result.0.now c.args.i _ (λ j. let fits = c.type_inv.octets j in omega (arith, fits))
    (omega (arith, c.if-i-key_words.true)) c.as_chunks.ensures.front c.from_be_bytes.ensures

pub returns-else-i-key_words : goal.returns-else-i-key_words
returns-else-i-key_words c =
    next_word-after c.args.octets.now c.args.words.now c.args.i _ c.requires.some c.requires.room c.if-i-key_words.false c.requires.before
    c.addend.ensures
