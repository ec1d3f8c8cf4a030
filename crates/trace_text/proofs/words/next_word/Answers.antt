use Rattle.std.proofs.Common.{sym, ◌∙◌}
use Rattle.trace_text.proofs.Taking.{words_of-none, words_of-first, shorter}
use Rattle.trace_text.proofs.words.next_word.Goals as goal

pub returns-then-is_empty-clause-end : goal.returns-then-is_empty-clause-end
returns-then-is_empty-clause-end c =
    words_of-none _ _ _ c.split_at.ensures.back c.blank_count.ensures.count (sym c.is_empty.ensures ∙ c.if-is_empty.true)

pub returns-clause-word : goal.returns-clause-word
returns-clause-word c =
    words_of-first _ _ _ _ _ _ c.split_at.ensures.back c.blank_count.ensures.count
    (sym c.is_empty.ensures ∙ c.if-is_empty.false) c.word_length.ensures.count
    c.split_at-2.ensures.front c.split_at-2.ensures.back

pub returns-clause-shorter : goal.returns-clause-shorter
returns-clause-shorter c =
    shorter _ _ _ _ _ c.split_at.ensures.back c.blank_count.ensures.count
    (sym c.is_empty.ensures ∙ c.if-is_empty.false) c.word_length.ensures.count c.split_at-2.ensures.back
