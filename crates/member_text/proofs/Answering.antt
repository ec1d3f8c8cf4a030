-- What a line answers, of its parts.
use Rattle.std.proofs.Common.{◌≡◌, ℕ, ◌≤◌, false, List, ◌∷◌, length, refl, ap, arith}
use Rattle.std.specs.Prelude.{Option, Some, Result, Ok, Err, nat_lt}
use Rattle.std.specs.Result.{result_map_both}
use Rattle.std.proofs.lemmas.Bool.Decides.{nat_tests}
use Rattle.trace_text.specs.Answering.{Answers}
use Rattle.trace_text.specs.declared.fault.LineError.{LineError}
use Rattle.trace_text.specs.declared.fault.LineError.TheVariants.{Refused, Memory}
use Rattle.trace_text.specs.declared.fault.TextFault.{TextFault}
use Rattle.trace_text.specs.Limits.{most_line}
use Rattle.trace_text.specs.Words.{words_of}
use Rattle.trace_text.specs.Reading.{is_comment}
use Rattle.member_text.specs.declared.line.MemberLine.{MemberLine}
use Rattle.member_text.specs.Reading.{member_line_of, member_line_in}

some_refused : (error : LineError) (r : Result MemberLine TextFault) → Answers {X = MemberLine} (Err error) r
    → Answers {X = Option MemberLine} (Err error) (result_map_both (λ line. Some line) (λ fault. fault) r)
some_refused (Refused fault) r same = ap (result_map_both (λ line. Some line) (λ e. e)) same
some_refused Memory (Ok line) given = refl
some_refused Memory (Err fault) given = absurd cc

-- the line of a text that is short enough, and neither empty nor a comment
member_line_in-words : (text first : List ℕ) (words : List (List ℕ)) → length text ≤ most_line → words_of text ≡ first ∷ words → is_comment first ≡ false
    → member_line_in text ≡ result_map_both (λ line. Some line) (λ fault. fault) (member_line_of first words)
unfolding member_line_in
member_line_in-words text first words short e plain =
    let test : nat_lt most_line (length text) ≡ false = grind (arith, nat_tests) in
    rw (test, e, plain) refl

pub form_refused : (text first rest : List ℕ) (error : LineError) → length text ≤ most_line → words_of text ≡ first ∷ words_of rest → is_comment first ≡ false
    → Answers {X = MemberLine} (Err error) (member_line_of first (words_of rest)) → Answers {X = Option MemberLine} (Err error) (member_line_in text)
form_refused text first rest error short e plain answers =
    rw (member_line_in-words text first (words_of rest) short e plain) (some_refused error (member_line_of first (words_of rest)) answers)
