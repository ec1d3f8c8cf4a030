-- What a call answers, of its parts.
use Rattle.std.proofs.Common.{◌≡◌, ℕ, ◌≤◌, false, List, ◌∷◌, ◌++◌, length, refl, ap, ◌∙◌, arith, append_assoc}
use Rattle.std.specs.Prelude.{Option, Some, Result, Ok, Err, OnErr, nat_lt}
use Rattle.std.specs.Result.{result_map_both}
use Rattle.std.proofs.lemmas.Bool.Decides.{nat_tests}
use Rattle.trace_text.specs.declared.fault.LineError.{LineError}
use Rattle.trace_text.specs.declared.fault.LineError.TheVariants.{Refused, Memory}
use Rattle.trace_text.specs.declared.fault.TextFault.{TextFault}
use Rattle.trace_text.specs.declared.line.Line.{Line}
use Rattle.trace_text.specs.Limits.{most_line}
use Rattle.trace_text.specs.Words.{words_of}
use Rattle.trace_text.specs.Reading.{line_of, is_comment, line_in}
use Rattle.trace_text.specs.Answering.{Answers}
use Rattle.trace_text.specs.Appending.{Grew}

some_refused : (error : LineError) (r : Result Line TextFault) → Answers {X = Line} (Err error) r
    → Answers {X = Option Line} (Err error) (result_map_both (λ line. Some line) (λ e. e) r)
some_refused (Refused fault) r same = ap (result_map_both (λ line. Some line) (λ e. e)) same
some_refused Memory (Ok line) given = refl
some_refused Memory (Err fault) given = absurd cc

-- the line of a text that is short enough, and neither empty nor a comment
pub line_in-words : (text first : List ℕ) (words : List (List ℕ)) → length text ≤ most_line → words_of text ≡ first ∷ words → is_comment first ≡ false
    → line_in text ≡ result_map_both (λ line. Some line) (λ e. e) (line_of first words)
unfolding line_in
line_in-words text first words short e plain =
    let test : nat_lt most_line (length text) ≡ false = grind (arith, nat_tests) in
    rw (test, e, plain) refl

pub form_refused : (text first rest : List ℕ) (error : LineError) → length text ≤ most_line → words_of text ≡ first ∷ words_of rest → is_comment first ≡ false
    → Answers {X = Line} (Err error) (line_of first (words_of rest)) → Answers {X = Option Line} (Err error) (line_in text)
form_refused text first rest error short e plain answers =
    rw (line_in-words text first (words_of rest) short e plain) (some_refused error (line_of first (words_of rest)) answers)

pub on_err : {A B P : Type 0} (r : Result A B) → P → OnErr r P
on_err (Ok x) p = tt
on_err (Err e) p = p

pub then_more : (old now new more : List ℕ) → Grew old now → new ≡ now ++ more → Grew old new
then_more old now new more before e =
    (before.0 ++ more, e ∙ ap (λ xs. xs ++ more) before.1 ∙ append_assoc old before.0 more)

pub then_grew : (old now new : List ℕ) → Grew old now → Grew now new → Grew old new
then_grew old now new before after = then_more old now new after.0 before after.1
