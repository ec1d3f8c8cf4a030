-- What a trace of two groups reads as a line of one group, a trace of one group reads as that line.
use Rattle.std.proofs.Common.{◌≡◌, ℕ, Bool, true, false, List, [], ◌∷◌, length, refl, inl, inr}
use Rattle.std.specs.Prelude.{Some, None, Result, Ok, Err, if◌then◌else◌, nat_lt, codes}
use Rattle.std.specs.Result.{result_map_both}
use Rattle.trace_text.specs.declared.fault.TextFault.{TextFault}
use Rattle.trace_text.specs.declared.fault.TextFault.TheVariants.{TooLong, Word}
use Rattle.trace_text.specs.declared.line.Line.{Line}
use Rattle.trace_text.specs.Limits.{most_line}
use Rattle.trace_text.specs.Words.{words_of, is_word}
use Rattle.trace_text.specs.Kinds.{said, name, secret, key_name}
use Rattle.trace_text.specs.Reading.{◌>>=◌, line_of, line_of_words, line_in, is_comment}
use Rattle.trace_text.proofs.InForm.{both_steps, by_test}
use Rattle.trace_text.specs.declared.twin.line.RollLine.{RollLine}
use Rattle.trace_text.specs.declared.twin.line.RollLine.TheVariants.{Plain, Group2, Adopt, Leave}
use Rattle.trace_text.specs.twin.Forms.{group_number, group2_of, adopt_of, leave_of}
use Rattle.trace_text.specs.twin.Reading.{is_shared, plain_of, roll_line_of, roll_line_of_words, roll_line_in}
use Rattle.trace_text.proofs.twin_lines.InForm.{some_line}

group2_other : (words : List (List ℕ)) (line : Line) → group2_of words ≡ Ok (Plain line) → ⊥
group2_other [] line e = cc
group2_other (key ∷ []) line e = cc
group2_other (key ∷ its_name ∷ []) line e =
    let p = both_steps (said secret key) (λ cak. said key_name its_name >>= (λ ckn. Ok (Group2 cak ckn))) (Plain line) e in
    let q = both_steps (said key_name its_name) (λ ckn. Ok (Group2 p.0 ckn)) (Plain line) p.2 in
    cc q.2
group2_other (key ∷ its_name ∷ word ∷ words) line e = cc

adopt_other : (words : List (List ℕ)) (line : Line) → adopt_of words ≡ Ok (Plain line) → ⊥
adopt_other [] line e = cc
adopt_other (station ∷ []) line e =
    let p = both_steps (said name station) (λ n. Ok (Adopt n)) (Plain line) e in
    cc p.2
adopt_other (station ∷ word ∷ words) line e = cc

leave_other : (words : List (List ℕ)) (line : Line) → leave_of words ≡ Ok (Plain line) → ⊥
leave_other [] line e = cc
leave_other (group ∷ []) line e = cc
leave_other (group ∷ station ∷ []) line e =
    let p = both_steps (said group_number group) (λ g. said name station >>= (λ n. Ok (Leave g n))) (Plain line) e in
    let q = both_steps (said name station) (λ n. Ok (Leave p.0 n)) (Plain line) p.2 in
    cc q.2
leave_other (group ∷ station ∷ word ∷ words) line e = cc

plain_same : (first : List ℕ) (words : List (List ℕ)) (line : Line) → plain_of first words ≡ Ok (Plain line) → line_of first words ≡ Ok line
plain_same first words line e =
    let p = both_steps (line_of first words) (λ made. Ok (Plain made)) (Plain line) e in
    cc (p.1, p.2)

-- a line by the tests of its first word
tests_same : (group2 adopt leave : Bool) (first : List ℕ) (words : List (List ℕ)) (line : Line)
    → (if group2 then group2_of words else if adopt then adopt_of words else if leave then leave_of words else if is_shared first then plain_of first words else Err Word) ≡ Ok (Plain line)
    → line_of first words ≡ Ok line
tests_same true adopt leave first words line e = absurd (group2_other words line e)
tests_same false true leave first words line e = absurd (adopt_other words line e)
tests_same false false true first words line e = absurd (leave_other words line e)
tests_same false false false first words line e =
    elim (by_test (is_shared first) (plain_of first words) (Err Word) (Plain line) e) [
      | inl shared ↦ plain_same first words line shared.1
      | inr other ↦ absurd cc
    ]

comment_same : (b : Bool) (r : Result RollLine TextFault) (s : Result Line TextFault) (line : Line) → (r ≡ Ok (Plain line) → s ≡ Ok line)
    → (if b then Ok None else result_map_both (λ x. Some x) (λ fault. fault) r) ≡ Ok (Some (Plain line))
    → (if b then Ok None else result_map_both (λ x. Some x) (λ fault. fault) s) ≡ Ok (Some line)
comment_same true r s line same e = absurd cc
comment_same false r s line same e = rw (same (some_line r (Plain line) e)) refl

words_same : (words : List (List ℕ)) (line : Line) → roll_line_of_words words ≡ Ok (Some (Plain line)) → line_of_words words ≡ Ok (Some line)
words_same [] line e = absurd cc
words_same (first ∷ words) line e =
    comment_same (is_comment first) (roll_line_of first words) (line_of first words) line
    (tests_same (is_word first (codes "group2")) (is_word first (codes "adopt")) (is_word first (codes "leave")) first words line) e

length_same : (b : Bool) (words : List (List ℕ)) (line : Line) → (if b then Err TooLong else roll_line_of_words words) ≡ Ok (Some (Plain line))
    → (if b then Err TooLong else line_of_words words) ≡ Ok (Some line)
length_same true words line e = absurd cc
length_same false words line e = words_same words line e

pub plain_reads : (text : List ℕ) (line : Line) → roll_line_in text ≡ Ok (Some (Plain line)) → line_in text ≡ Ok (Some line)
unfolding roll_line_in line_in
plain_reads text line e = length_same (nat_lt most_line (length text)) (words_of text) line e
