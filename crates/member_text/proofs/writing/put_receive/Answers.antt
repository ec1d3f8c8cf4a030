use Rattle.std.proofs.Common.{◌∙◌}
use Rattle.member_text.proofs.writing.put_receive.Goals as goal

pub returns-clause-ok : goal.returns-clause-ok
returns-clause-ok c = rw (c.from.ensures ∙ c.number.ensures.value) at c.put_words.ensures.ok
