-- Each word of a line that is read is inside its form.
use Rattle.std.proofs.Common.{◌≡◌, ℕ, Bool, true, false, List, [], ◌∷◌, length, ap, subst}
use Rattle.std.specs.Prelude.{Option, Some, None, Result, Ok, Err, IfOk, IfSome, if◌then◌else◌, nat_lt, codes}
use Rattle.std.specs.Result.{result_map_both}
use Rattle.trace_text.specs.Answering.{Answers}
use Rattle.trace_text.specs.declared.fault.LineError.{LineError}
use Rattle.trace_text.specs.declared.fault.TextFault.{TextFault}
use Rattle.trace_text.specs.declared.fault.TextFault.TheVariants.{TooLong, Word}
use Rattle.trace_text.specs.Limits.{most_line}
use Rattle.trace_text.specs.Words.{words_of, is_word}
use Rattle.trace_text.specs.Kinds.{key_name, said, secret}
use Rattle.trace_text.specs.Reading.{◌>>=◌, is_comment}
use Rattle.trace_text.proofs.Public.{both_steps, said_fits, same_value}
use Rattle.audit_text.specs.declared.line.KeyLine.{KeyLine}
use Rattle.audit_text.specs.declared.line.KeyLine.TheVariants.{Capture, Group, Sak}
use Rattle.audit_text.specs.declared.line.Sender.{Sender}
use Rattle.audit_text.specs.declared.line.Sender.TheVariants.{Any, One}
use Rattle.audit_text.specs.Forms.{association, capture_of, group_of, identifier, sak_of, sender_in}
use Rattle.audit_text.specs.InForm.{IsFitSender, IsInFormKey}
use Rattle.audit_text.specs.Reading.{key_line_of, key_line_of_words, key_line_in}

group_fits : (words : List (List ℕ)) (line : KeyLine) → group_of words ≡ Ok line → IsInFormKey line
group_fits [] line e = absurd cc
group_fits (key ∷ []) line e = absurd cc
group_fits (key ∷ its_name ∷ []) line e =
    let p = both_steps (said secret key) (λ cak. said key_name its_name >>= (λ ckn. Ok (Group cak ckn))) line e in
    let q = both_steps (said key_name its_name) (λ ckn. Ok (Group p.0 ckn)) line p.2 in
    subst IsInFormKey (same_value (Group p.0 q.0) line q.2) (said_fits secret key p.0 p.1, said_fits key_name its_name q.0 q.1)
group_fits (key ∷ its_name ∷ word ∷ words) line e = absurd cc

any_or : (b : Bool) (word : List ℕ) (s : Sender)
    → (if b then Ok Any else (said identifier word >>= (λ sci. Ok (One (record { 0 = sci }))))) ≡ Ok s
    → IsFitSender s
any_or true word s e = subst IsFitSender (same_value Any s e) tt
any_or false word s e =
    let p = both_steps (said identifier word) (λ sci. Ok (One (record { 0 = sci }))) s e in
    subst IsFitSender (same_value (One (record { 0 = p.0 })) s p.2) (said_fits identifier word p.0 p.1)

sender_fits : (word : List ℕ) (s : Sender) → sender_in word ≡ Ok s → IsFitSender s
sender_fits word s e = any_or (is_word word (codes "any")) word s e

sak_fits : (words : List (List ℕ)) (line : KeyLine) → sak_of words ≡ Ok line → IsInFormKey line
sak_fits [] line e = absurd cc
sak_fits (sender ∷ []) line e = absurd cc
sak_fits (sender ∷ an ∷ []) line e = absurd cc
sak_fits (sender ∷ an ∷ key ∷ []) line e =
    let p = both_steps (sender_in sender) (λ s. said association an >>= (λ a. said secret key >>= (λ k. Ok (Sak s a k)))) line e in
    let q = both_steps (said association an) (λ a. said secret key >>= (λ k. Ok (Sak p.0 a k))) line p.2 in
    let r = both_steps (said secret key) (λ k. Ok (Sak p.0 q.0 k)) line q.2 in
    subst IsInFormKey (same_value (Sak p.0 q.0 r.0) line r.2)
    (sender_fits sender p.0 p.1, said_fits association an q.0 q.1, said_fits secret key r.0 r.1)
sak_fits (sender ∷ an ∷ key ∷ word ∷ words) line e = absurd cc

capture_fits : (words : List (List ℕ)) (line : KeyLine) → capture_of words ≡ Ok line → IsInFormKey line
capture_fits [] line e = subst IsInFormKey (same_value Capture line e) tt
capture_fits (word ∷ words) line e = absurd cc

-- a line by the tests of its first word
tests_fit : (group sak capture : Bool) (words : List (List ℕ)) (line : KeyLine)
    → (if group then group_of words else if sak then sak_of words else if capture then capture_of words else Err Word) ≡ Ok line
    → IsInFormKey line
tests_fit true sak capture words line e = group_fits words line e
tests_fit false true capture words line e = sak_fits words line e
tests_fit false false true words line e = capture_fits words line e
tests_fit false false false words line e = absurd cc

abbrev line_or : KeyLine → Result (Option KeyLine) TextFault → KeyLine
line_or d (Ok (Some line)) = line
line_or d (Ok None) = d
line_or d (Err fault) = d

some_line : (r : Result KeyLine TextFault) (line : KeyLine) → result_map_both (λ x. Some x) (λ fault. fault) r ≡ Ok (Some line) → r ≡ Ok line
some_line (Ok made) line e = ap Ok (ap (line_or made) e)
some_line (Err fault) line e = absurd cc

comment_or : (b : Bool) (r : Result KeyLine TextFault) (line : KeyLine) → (if b then Ok None else result_map_both (λ x. Some x) (λ fault. fault) r) ≡ Ok (Some line) → r ≡ Ok line
comment_or true r line e = absurd cc
comment_or false r line e = some_line r line e

words_fit : (words : List (List ℕ)) (line : KeyLine) → key_line_of_words words ≡ Ok (Some line) → IsInFormKey line
words_fit [] line e = absurd cc
words_fit (first ∷ words) line e =
    tests_fit (is_word first (codes "group")) (is_word first (codes "sak")) (is_word first (codes "capture")) words line
    (comment_or (is_comment first) (key_line_of first words) line e)

short_enough : (b : Bool) (r : Result (Option KeyLine) TextFault) (said : Option KeyLine) → (if b then Err TooLong else r) ≡ Ok said → r ≡ Ok said
short_enough true r said e = absurd cc
short_enough false r said e = e

pub key_read_fits : (text : List ℕ) (line : KeyLine) → key_line_in text ≡ Ok (Some line) → IsInFormKey line
unfolding key_line_in
key_read_fits text line e =
    words_fit (words_of text) line (short_enough (nat_lt most_line (length text)) (key_line_of_words (words_of text)) (Some line) e)

pub answer_fits : (r : Result (Option KeyLine) LineError) (text : List ℕ) → Answers r (key_line_in text) → IfOk r (λ read. IfSome read IsInFormKey)
answer_fits (Ok None) text e = tt
answer_fits (Ok (Some line)) text e = key_read_fits text line e
answer_fits (Err error) text e = tt
