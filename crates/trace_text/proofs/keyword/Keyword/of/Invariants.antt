use Rattle.std.proofs.Common.{◌≡◌, drop}
use Rattle.std.specs.List.{find}
use Rattle.trace_text.specs.Words.{is_word}
use Rattle.trace_text.specs.Keywords.{keyword_of, keywords, spelling}
use Rattle.trace_text.proofs.keyword.Keyword.of.Given as goal

-- none of the keywords so far is the word
abbrev pub invariant-loop-keyword : goal.invariant-loop-keyword
invariant-loop-keyword l =
    keyword_of l.word ≡ find (λ k. is_word l.word (spelling k)) (drop l.keyword-index keywords)
