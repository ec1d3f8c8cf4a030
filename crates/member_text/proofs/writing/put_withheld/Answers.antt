use Rattle.std.proofs.Common.{◌∙◌}
use Rattle.member_text.proofs.writing.put_withheld.Goals as goal

pub returns-clause-ok : goal.returns-clause-ok
returns-clause-ok c =
    rw (c.from.ensures ∙ c.number.ensures.value, c.from-2.ensures, c.why_text.ensures) at c.put_words.ensures.ok
