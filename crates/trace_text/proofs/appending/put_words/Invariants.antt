use Rattle.std.proofs.Common.{◌≡◌, ◌++◌, map, take}
use Rattle.trace_text.specs.Words.{spaced}
use Rattle.trace_text.specs.Appending.{word_text}
use Rattle.trace_text.proofs.appending.put_words.Given as goal

abbrev pub invariant-loop-word : goal.invariant-loop-word
invariant-loop-word l = l.into.items ≡ l.initial.into.items ++ spaced (map word_text (take l.word-index l.words))
