-- Each word of a line that is read is inside its form.
use Rattle.std.proofs.Common.{◌≡◌, ℕ, Bool, true, false, List, [], ◌∷◌, length, ap, inl, inr, subst}
use Rattle.std.specs.Prelude.{Option, Some, None, Result, Ok, Err, IfOk, IfSome, if◌then◌else◌, nat_lt, codes}
use Rattle.std.specs.Result.{result_map_both}
use Rattle.trace_text.specs.Answering.{Answers}
use Rattle.trace_text.specs.declared.fault.LineError.{LineError}
use Rattle.trace_text.specs.declared.fault.TextFault.{TextFault}
use Rattle.trace_text.specs.declared.fault.TextFault.TheVariants.{TooLong, Word}
use Rattle.trace_text.specs.Limits.{most_line}
use Rattle.trace_text.specs.Words.{words_of, is_word}
use Rattle.trace_text.specs.Kinds.{said, name, secret, key_name}
use Rattle.trace_text.specs.Keywords.{keyword_of}
use Rattle.trace_text.specs.Reading.{◌>>=◌, line_of, is_comment}
use Rattle.trace_text.proofs.InForm.{both_steps, by_test, first_fits, said_fits, same_value}
use Rattle.trace_text.specs.declared.twin.line.RollLine.{RollLine}
use Rattle.trace_text.specs.declared.twin.line.RollLine.TheVariants.{Plain, Group2, Adopt, Leave}
use Rattle.trace_text.specs.twin.Forms.{group_number, group2_of, adopt_of, leave_of}
use Rattle.trace_text.specs.twin.InForm.{IsInFormRoll}
use Rattle.trace_text.specs.twin.Reading.{is_shared, plain_of, roll_line_of, roll_line_of_words, roll_line_in}
use Rattle.trace_text.proofs.twin_lines.Shared.{first_shared}

group2_fits : (words : List (List ℕ)) (line : RollLine) → group2_of words ≡ Ok line → IsInFormRoll line
group2_fits [] line e = absurd cc
group2_fits (key ∷ []) line e = absurd cc
group2_fits (key ∷ its_name ∷ []) line e =
    let p = both_steps (said secret key) (λ cak. said key_name its_name >>= (λ ckn. Ok (Group2 cak ckn))) line e in
    let q = both_steps (said key_name its_name) (λ ckn. Ok (Group2 p.0 ckn)) line p.2 in
    subst IsInFormRoll (same_value (Group2 p.0 q.0) line q.2) (said_fits secret key p.0 p.1, said_fits key_name its_name q.0 q.1)
group2_fits (key ∷ its_name ∷ word ∷ words) line e = absurd cc

adopt_fits : (words : List (List ℕ)) (line : RollLine) → adopt_of words ≡ Ok line → IsInFormRoll line
adopt_fits [] line e = absurd cc
adopt_fits (station ∷ []) line e =
    let p = both_steps (said name station) (λ n. Ok (Adopt n)) line e in
    subst IsInFormRoll (same_value (Adopt p.0) line p.2) (said_fits name station p.0 p.1)
adopt_fits (station ∷ word ∷ words) line e = absurd cc

leave_fits : (words : List (List ℕ)) (line : RollLine) → leave_of words ≡ Ok line → IsInFormRoll line
leave_fits [] line e = absurd cc
leave_fits (group ∷ []) line e = absurd cc
leave_fits (group ∷ station ∷ []) line e =
    let p = both_steps (said group_number group) (λ g. said name station >>= (λ n. Ok (Leave g n))) line e in
    let q = both_steps (said name station) (λ n. Ok (Leave p.0 n)) line p.2 in
    subst IsInFormRoll (same_value (Leave p.0 q.0) line q.2) (said_fits group_number group p.0 p.1, said_fits name station q.0 q.1)
leave_fits (group ∷ station ∷ word ∷ words) line e = absurd cc

plain_fits : (first : List ℕ) (words : List (List ℕ)) (line : RollLine) → is_shared first ≡ true → plain_of first words ≡ Ok line → IsInFormRoll line
plain_fits first words line shared e =
    let p = both_steps (line_of first words) (λ made. Ok (Plain made)) line e in
    subst IsInFormRoll (same_value (Plain p.0) line p.2) (first_fits (keyword_of first) words p.0 p.1, first_shared (keyword_of first) words p.0 shared p.1)

-- a line by the tests of its first word
tests_fit : (group2 adopt leave : Bool) (first : List ℕ) (words : List (List ℕ)) (line : RollLine)
    → (if group2 then group2_of words else if adopt then adopt_of words else if leave then leave_of words else if is_shared first then plain_of first words else Err Word) ≡ Ok line
    → IsInFormRoll line
tests_fit true adopt leave first words line e = group2_fits words line e
tests_fit false true leave first words line e = adopt_fits words line e
tests_fit false false true first words line e = leave_fits words line e
tests_fit false false false first words line e =
    elim (by_test (is_shared first) (plain_of first words) (Err Word) line e) [
      | inl shared ↦ plain_fits first words line shared.0 shared.1
      | inr other ↦ absurd cc
    ]

abbrev line_or : RollLine → Result (Option RollLine) TextFault → RollLine
line_or d (Ok (Some line)) = line
line_or d (Ok None) = d
line_or d (Err fault) = d

pub some_line : (r : Result RollLine TextFault) (line : RollLine) → result_map_both (λ x. Some x) (λ fault. fault) r ≡ Ok (Some line) → r ≡ Ok line
some_line (Ok made) line e = ap Ok (ap (line_or made) e)
some_line (Err fault) line e = absurd cc

comment_or : (b : Bool) (r : Result RollLine TextFault) (line : RollLine) → (if b then Ok None else result_map_both (λ x. Some x) (λ fault. fault) r) ≡ Ok (Some line) → r ≡ Ok line
comment_or true r line e = absurd cc
comment_or false r line e = some_line r line e

words_fit : (words : List (List ℕ)) (line : RollLine) → roll_line_of_words words ≡ Ok (Some line) → IsInFormRoll line
words_fit [] line e = absurd cc
words_fit (first ∷ words) line e =
    tests_fit (is_word first (codes "group2")) (is_word first (codes "adopt")) (is_word first (codes "leave")) first words line
    (comment_or (is_comment first) (roll_line_of first words) line e)

short_enough : (b : Bool) (r : Result (Option RollLine) TextFault) (said : Option RollLine) → (if b then Err TooLong else r) ≡ Ok said → r ≡ Ok said
short_enough true r said e = absurd cc
short_enough false r said e = e

pub roll_read_fits : (text : List ℕ) (line : RollLine) → roll_line_in text ≡ Ok (Some line) → IsInFormRoll line
unfolding roll_line_in
roll_read_fits text line e =
    words_fit (words_of text) line (short_enough (nat_lt most_line (length text)) (roll_line_of_words (words_of text)) (Some line) e)

pub answer_fits : (r : Result (Option RollLine) LineError) (text : List ℕ) → Answers r (roll_line_in text) → IfOk r (λ read. IfSome read IsInFormRoll)
answer_fits (Ok None) text e = tt
answer_fits (Ok (Some line)) text e = roll_read_fits text line e
answer_fits (Err error) text e = tt
