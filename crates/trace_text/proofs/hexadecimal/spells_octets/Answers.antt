use Rattle.std.proofs.Common.{sym, ◌∙◌}
use Rattle.trace_text.proofs.Decoding.{spells}
use Rattle.trace_text.proofs.hexadecimal.spells_octets.Goals as goal

pub returns-then-word-eq0 : goal.returns-then-word-eq0
returns-then-word-eq0 c =
    c.are_hex_digits.ensures ∙ sym (spells c.args.word.now c.if-word-eq0.true)
