use Rattle.std.proofs.Common.{◌≡◌, ◌++◌, map, take}
use Rattle.trace_text.specs.Words.{spaced}
use Rattle.audit_report.specs.Lines.{count_words}
use Rattle.audit_report.proofs.report.put_numbers.Given as goal

abbrev pub invariant-loop-name : goal.invariant-loop-name
invariant-loop-name l = l.into.items
    ≡ l.initial.into.items ++ spaced (count_words (map (λ it. (it.0.now, it.1)) (take l.name-index l.numbers)))
