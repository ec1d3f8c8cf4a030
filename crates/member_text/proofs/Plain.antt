-- What a trace of two groups reads as a line of one group, a trace of one group reads as that line.
use Rattle.std.proofs.Common.{◌≡◌, ℕ, Bool, true, false, List, [], ◌∷◌, length, refl, inl, inr}
use Rattle.std.specs.Prelude.{Some, None, Result, Ok, Err, if◌then◌else◌, nat_lt, codes}
use Rattle.std.specs.Result.{result_map_both}
use Rattle.trace_text.specs.declared.fault.TextFault.{TextFault}
use Rattle.trace_text.specs.declared.fault.TextFault.TheVariants.{TooLong, Word}
use Rattle.trace_text.specs.declared.line.Line.{Line}
use Rattle.trace_text.specs.Limits.{most_line}
use Rattle.trace_text.specs.Words.{words_of, is_word}
use Rattle.trace_text.specs.Kinds.{said, name, exactly, priority}
use Rattle.trace_text.specs.Reading.{◌>>=◌, line_of, line_of_words, line_in, is_comment}
use Rattle.trace_text.proofs.Public.{both_steps, by_test}
use Rattle.member_text.specs.declared.line.MemberLine.{MemberLine}
use Rattle.member_text.specs.declared.line.MemberLine.TheVariants.{Plain, Member, Tick, Hear}
use Rattle.member_text.specs.Forms.{lowest_number, heard, next_of, member_of, tick_of, hear_of}
use Rattle.member_text.specs.Reading.{is_shared, plain_of, member_line_of, member_line_of_words, member_line_in}
use Rattle.member_text.proofs.InForm.{some_line}

member_other : (words : List (List ℕ)) (line : Line) → member_of words ≡ Ok (Plain line) → ⊥
member_other [] line e = cc
member_other (station ∷ []) line e = cc
member_other (station ∷ channel ∷ []) line e = cc
member_other (station ∷ channel ∷ rank ∷ []) line e =
    let p = both_steps (said name station) (λ n. said (exactly 8) channel >>= (λ sci. said priority rank >>= (λ r. Ok (Member n (record { 0 = sci }) r)))) (Plain line) e in
    let q = both_steps (said (exactly 8) channel) (λ sci. said priority rank >>= (λ r. Ok (Member p.0 (record { 0 = sci }) r))) (Plain line) p.2 in
    let t = both_steps (said priority rank) (λ r. Ok (Member p.0 (record { 0 = q.0 }) r)) (Plain line) q.2 in
    cc t.2
member_other (station ∷ channel ∷ rank ∷ word ∷ words) line e = cc

tick_other : (words : List (List ℕ)) (line : Line) → tick_of words ≡ Ok (Plain line) → ⊥
tick_other [] line e = cc
tick_other (first ∷ []) line e = cc
tick_other (first ∷ second ∷ []) line e = cc
tick_other (first ∷ second ∷ third ∷ []) line e =
    let p = both_steps (next_of first) (λ next. said lowest_number second >>= (λ latest. said lowest_number third >>= (λ old. Ok (Tick next latest old)))) (Plain line) e in
    let q = both_steps (said lowest_number second) (λ latest. said lowest_number third >>= (λ old. Ok (Tick p.0 latest old))) (Plain line) p.2 in
    let t = both_steps (said lowest_number third) (λ old. Ok (Tick p.0 q.0 old)) (Plain line) q.2 in
    cc t.2
tick_other (first ∷ second ∷ third ∷ word ∷ words) line e = cc

hear_other : (words : List (List ℕ)) (line : Line) → hear_of words ≡ Ok (Plain line) → ⊥
hear_other [] line e = cc
hear_other (frame ∷ []) line e =
    let p = both_steps (said heard frame) (λ octets. Ok (Hear octets)) (Plain line) e in
    cc p.2
hear_other (frame ∷ word ∷ words) line e = cc

plain_same : (first : List ℕ) (words : List (List ℕ)) (line : Line) → plain_of first words ≡ Ok (Plain line) → line_of first words ≡ Ok line
plain_same first words line e =
    let p = both_steps (line_of first words) (λ made. Ok (Plain made)) (Plain line) e in
    cc (p.1, p.2)

-- a line by the tests of its first word
tests_same : (starts ticks hears : Bool) (first : List ℕ) (words : List (List ℕ)) (line : Line)
    → (if starts then member_of words else if ticks then tick_of words else if hears then hear_of words else if is_shared first then plain_of first words else Err Word) ≡ Ok (Plain line)
    → line_of first words ≡ Ok line
tests_same true ticks hears first words line e = absurd (member_other words line e)
tests_same false true hears first words line e = absurd (tick_other words line e)
tests_same false false true first words line e = absurd (hear_other words line e)
tests_same false false false first words line e =
    elim (by_test (is_shared first) (plain_of first words) (Err Word) (Plain line) e) [
      | inl shared ↦ plain_same first words line shared.1
      | inr other ↦ absurd cc
    ]

comment_same : (b : Bool) (r : Result MemberLine TextFault) (s : Result Line TextFault) (line : Line) → (r ≡ Ok (Plain line) → s ≡ Ok line)
    → (if b then Ok None else result_map_both (λ x. Some x) (λ fault. fault) r) ≡ Ok (Some (Plain line))
    → (if b then Ok None else result_map_both (λ x. Some x) (λ fault. fault) s) ≡ Ok (Some line)
comment_same true r s line same e = absurd cc
comment_same false r s line same e = rw (same (some_line r (Plain line) e)) refl

words_same : (words : List (List ℕ)) (line : Line) → member_line_of_words words ≡ Ok (Some (Plain line)) → line_of_words words ≡ Ok (Some line)
words_same [] line e = absurd cc
words_same (first ∷ words) line e =
    comment_same (is_comment first) (member_line_of first words) (line_of first words) line
    (tests_same (is_word first (codes "member")) (is_word first (codes "tick")) (is_word first (codes "hear")) first words line) e

length_same : (b : Bool) (words : List (List ℕ)) (line : Line) → (if b then Err TooLong else member_line_of_words words) ≡ Ok (Some (Plain line))
    → (if b then Err TooLong else line_of_words words) ≡ Ok (Some line)
length_same true words line e = absurd cc
length_same false words line e = words_same words line e

pub plain_reads : (text : List ℕ) (line : Line) → member_line_in text ≡ Ok (Some (Plain line)) → line_in text ≡ Ok (Some line)
unfolding member_line_in line_in
plain_reads text line e = length_same (nat_lt most_line (length text)) (words_of text) line e
