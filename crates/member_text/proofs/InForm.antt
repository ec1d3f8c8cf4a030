-- Each word of a line that is read is inside its form.
use Rattle.std.proofs.Common.{◌≡◌, ℕ, ◌^◌, Bool, true, false, List, [], ◌∷◌, length, ap, inl, inr, subst, arith}
use Rattle.std.specs.Prelude.{Option, Some, None, Result, Ok, Err, IfOk, IfSome, if◌then◌else◌, nat_lt, codes}
use Rattle.std.specs.Result.{result_map_both}
use Rattle.trace_text.specs.Answering.{Answers}
use Rattle.trace_text.specs.declared.fault.LineError.{LineError}
use Rattle.trace_text.specs.declared.fault.TextFault.{TextFault}
use Rattle.trace_text.specs.declared.fault.TextFault.TheVariants.{TooLong, Word}
use Rattle.trace_text.specs.Limits.{most_line}
use Rattle.trace_text.specs.Words.{words_of, is_word}
use Rattle.trace_text.specs.Kinds.{said, IsFit, name, exactly, priority}
use Rattle.trace_text.specs.Keywords.{keyword_of}
use Rattle.trace_text.specs.Reading.{◌>>=◌, line_of, is_comment}
use Rattle.trace_text.proofs.Public.{both_steps, by_test, first_fits, said_fits, same_value}
use Rattle.member_text.specs.declared.line.MemberLine.{MemberLine}
use Rattle.member_text.specs.declared.line.MemberLine.TheVariants.{Plain, Member, Tick, Hear}
use Rattle.member_text.specs.Forms.{next_number, lowest_number, heard, next_of, member_of, tick_of, hear_of}
use Rattle.member_text.specs.InForm.{IsInFormMember}
use Rattle.member_text.specs.Reading.{is_shared, plain_of, member_line_of, member_line_of_words, member_line_in}
use Rattle.member_text.proofs.Shared.{first_shared}

next_fits : (b : Bool) (word : List ℕ) (n : ℕ) → (if b then Ok (2 ^ 32) else said lowest_number word) ≡ Ok n → IsFit next_number n
next_fits true word n e = let same = same_value (2 ^ 32) n e in omega arith
next_fits false word n e = let fit = said_fits lowest_number word n e in omega arith

member_fits : (words : List (List ℕ)) (line : MemberLine) → member_of words ≡ Ok line → IsInFormMember line
member_fits [] line e = absurd cc
member_fits (station ∷ []) line e = absurd cc
member_fits (station ∷ channel ∷ []) line e = absurd cc
member_fits (station ∷ channel ∷ rank ∷ []) line e =
    let p = both_steps (said name station) (λ n. said (exactly 8) channel >>= (λ sci. said priority rank >>= (λ r. Ok (Member n (record { 0 = sci }) r)))) line e in
    let q = both_steps (said (exactly 8) channel) (λ sci. said priority rank >>= (λ r. Ok (Member p.0 (record { 0 = sci }) r))) line p.2 in
    let t = both_steps (said priority rank) (λ r. Ok (Member p.0 (record { 0 = q.0 }) r)) line q.2 in
    subst IsInFormMember (same_value (Member p.0 (record { 0 = q.0 }) t.0) line t.2)
    (said_fits name station p.0 p.1, said_fits (exactly 8) channel q.0 q.1, said_fits priority rank t.0 t.1)
member_fits (station ∷ channel ∷ rank ∷ word ∷ words) line e = absurd cc

tick_fits : (words : List (List ℕ)) (line : MemberLine) → tick_of words ≡ Ok line → IsInFormMember line
tick_fits [] line e = absurd cc
tick_fits (first ∷ []) line e = absurd cc
tick_fits (first ∷ second ∷ []) line e = absurd cc
tick_fits (first ∷ second ∷ third ∷ []) line e =
    let p = both_steps (next_of first) (λ next. said lowest_number second >>= (λ latest. said lowest_number third >>= (λ old. Ok (Tick next latest old)))) line e in
    let q = both_steps (said lowest_number second) (λ latest. said lowest_number third >>= (λ old. Ok (Tick p.0 latest old))) line p.2 in
    let t = both_steps (said lowest_number third) (λ old. Ok (Tick p.0 q.0 old)) line q.2 in
    subst IsInFormMember (same_value (Tick p.0 q.0 t.0) line t.2)
    (next_fits (is_word first (codes "4294967296")) first p.0 p.1, said_fits lowest_number second q.0 q.1, said_fits lowest_number third t.0 t.1)
tick_fits (first ∷ second ∷ third ∷ word ∷ words) line e = absurd cc

hear_fits : (words : List (List ℕ)) (line : MemberLine) → hear_of words ≡ Ok line → IsInFormMember line
hear_fits [] line e = absurd cc
hear_fits (frame ∷ []) line e =
    let p = both_steps (said heard frame) (λ octets. Ok (Hear octets)) line e in
    subst IsInFormMember (same_value (Hear p.0) line p.2) (said_fits heard frame p.0 p.1)
hear_fits (frame ∷ word ∷ words) line e = absurd cc

plain_fits : (first : List ℕ) (words : List (List ℕ)) (line : MemberLine) → is_shared first ≡ true → plain_of first words ≡ Ok line → IsInFormMember line
plain_fits first words line shared e =
    let p = both_steps (line_of first words) (λ made. Ok (Plain made)) line e in
    subst IsInFormMember (same_value (Plain p.0) line p.2) (first_fits (keyword_of first) words p.0 p.1, first_shared (keyword_of first) words p.0 shared p.1)

-- a line by the tests of its first word
tests_fit : (starts ticks hears : Bool) (first : List ℕ) (words : List (List ℕ)) (line : MemberLine)
    → (if starts then member_of words else if ticks then tick_of words else if hears then hear_of words else if is_shared first then plain_of first words else Err Word) ≡ Ok line
    → IsInFormMember line
tests_fit true ticks hears first words line e = member_fits words line e
tests_fit false true hears first words line e = tick_fits words line e
tests_fit false false true first words line e = hear_fits words line e
tests_fit false false false first words line e =
    elim (by_test (is_shared first) (plain_of first words) (Err Word) line e) [
      | inl shared ↦ plain_fits first words line shared.0 shared.1
      | inr other ↦ absurd cc
    ]

abbrev line_or : MemberLine → Result (Option MemberLine) TextFault → MemberLine
line_or d (Ok (Some line)) = line
line_or d (Ok None) = d
line_or d (Err fault) = d

pub some_line : (r : Result MemberLine TextFault) (line : MemberLine) → result_map_both (λ x. Some x) (λ fault. fault) r ≡ Ok (Some line) → r ≡ Ok line
some_line (Ok made) line e = ap Ok (ap (line_or made) e)
some_line (Err fault) line e = absurd cc

comment_or : (b : Bool) (r : Result MemberLine TextFault) (line : MemberLine) → (if b then Ok None else result_map_both (λ x. Some x) (λ fault. fault) r) ≡ Ok (Some line) → r ≡ Ok line
comment_or true r line e = absurd cc
comment_or false r line e = some_line r line e

words_fit : (words : List (List ℕ)) (line : MemberLine) → member_line_of_words words ≡ Ok (Some line) → IsInFormMember line
words_fit [] line e = absurd cc
words_fit (first ∷ words) line e =
    tests_fit (is_word first (codes "member")) (is_word first (codes "tick")) (is_word first (codes "hear")) first words line
    (comment_or (is_comment first) (member_line_of first words) line e)

short_enough : (b : Bool) (r : Result (Option MemberLine) TextFault) (said : Option MemberLine) → (if b then Err TooLong else r) ≡ Ok said → r ≡ Ok said
short_enough true r said e = absurd cc
short_enough false r said e = e

pub member_read_fits : (text : List ℕ) (line : MemberLine) → member_line_in text ≡ Ok (Some line) → IsInFormMember line
unfolding member_line_in
member_read_fits text line e =
    words_fit (words_of text) line (short_enough (nat_lt most_line (length text)) (member_line_of_words (words_of text)) (Some line) e)

pub answer_fits : (r : Result (Option MemberLine) LineError) (text : List ℕ) → Answers r (member_line_in text) → IfOk r (λ read. IfSome read IsInFormMember)
answer_fits (Ok None) text e = tt
answer_fits (Ok (Some line)) text e = member_read_fits text line e
answer_fits (Err error) text e = tt
