-- A line of fewer octets than the word has does not say `capture`.
use Rattle.std.proofs.Common.{◌≡◌, ℕ, suc, ◌<◌, ◌≤◌, Bool, true, false, List, [], ◌∷◌, length, refl, arith, cond}
use Rattle.std.specs.Prelude.{Option, Some, None, Result, Ok, Err, codes, filter, if◌then◌else◌, nat_eq, nat_lt}
use Rattle.std.specs.Cmp.Lexicographic.{as_long}
use Rattle.std.specs.List.{onto_first, slice_split}
use Rattle.std.specs.Result.{result_map_both}
use Rattle.trace_text.specs.declared.fault.TextFault.{TextFault}
use Rattle.trace_text.specs.declared.fault.TextFault.TheVariants.{TooLong, Word}
use Rattle.trace_text.specs.Kinds.{key_name, said, secret}
use Rattle.trace_text.specs.Limits.{most_line}
use Rattle.trace_text.specs.Reading.{◌>>=◌, is_comment}
use Rattle.trace_text.specs.Words.{is_blank, is_word, words_of}
use Rattle.audit_text.specs.declared.line.KeyLine.{KeyLine}
use Rattle.audit_text.specs.declared.line.KeyLine.TheVariants.{Group, Sak}
use Rattle.audit_text.specs.declared.line.Sender.{Sender}
use Rattle.audit_text.specs.Forms.{association, capture_of, group_of, sak_of, sender_in}
use Rattle.audit_text.specs.Parting.{is_capture, says_capture}
use Rattle.audit_text.specs.Reading.{key_line_in, key_line_of_words}

-- ---- words are no longer than their line

abbrev AreWithin : ℕ → List (List ℕ) → Type 0
AreWithin n [] = Unit {0}
AreWithin n (word ∷ words) = (length word ≤ n) × AreWithin n words

wider : (n : ℕ) (words : List (List ℕ)) → AreWithin n words → AreWithin (suc n) words
wider n [] within = tt
wider n (word ∷ words) within = (let w = within.0 in omega (arith, w), wider n words within.1)

longer : (x n : ℕ) (words : List (List ℕ)) → AreWithin n words → AreWithin (suc n) (onto_first x words)
longer x n [] within = (omega arith, tt)
longer x n (word ∷ words) within = (let w = within.0 in omega (arith, w), wider n words within.1)

split-within : (b : Bool) (x n : ℕ) (words : List (List ℕ)) → AreWithin n words
    → AreWithin (suc n) (cond b ([] ∷ words) (onto_first x words))
split-within true x n words within = (omega arith, wider n words within)
split-within false x n words within = longer x n words within

parts-within : (line : List ℕ) → AreWithin (length line) (slice_split is_blank line)
parts-within [] = (omega arith, tt)
parts-within (x ∷ line) = split-within (is_blank x) x (length line) (slice_split is_blank line) (parts-within line)

one-within : (b : Bool) (n : ℕ) (word : List ℕ) (words : List (List ℕ)) → length word ≤ n → AreWithin n words
    → AreWithin n (cond b (word ∷ words) words)
one-within true n word words short within = (short, within)
one-within false n word words short within = within

kept-within : (test : List ℕ → Bool) (n : ℕ) (words : List (List ℕ)) → AreWithin n words → AreWithin n (filter test words)
kept-within test n [] within = tt
kept-within test n (word ∷ words) within = one-within (test word) n word (filter test words) within.0 (kept-within test n words within.1)

words-within : (line : List ℕ) → AreWithin (length line) (words_of line)
words-within line =
    kept-within (λ word. nat_lt 0 (length word)) (length line) (slice_split is_blank line) (parts-within line)

-- ---- other lines do not say it

abbrev tells : Result KeyLine TextFault → Bool
tells read = is_capture (result_map_both (λ line. Some line) (λ fault. fault) read)

group-by : (cak ckn : Result (List ℕ) TextFault) → tells (cak >>= (λ a. ckn >>= (λ b. Ok (Group a b)))) ≡ false
group-by (Ok a) (Ok b) = refl
group-by (Ok a) (Err fault) = refl
group-by (Err fault) ckn = refl

group-other : (words : List (List ℕ)) → tells (group_of words) ≡ false
group-other [] = refl
group-other (key ∷ []) = refl
group-other (key ∷ its_name ∷ []) = group-by (said secret key) (said key_name its_name)
group-other (key ∷ its_name ∷ word ∷ words) = refl

sak-by : (sender : Result Sender TextFault) (an : Result ℕ TextFault) (sak : Result (List ℕ) TextFault)
    → tells (sender >>= (λ s. an >>= (λ a. sak >>= (λ k. Ok (Sak s a k))))) ≡ false
sak-by (Ok s) (Ok a) (Ok k) = refl
sak-by (Ok s) (Ok a) (Err fault) = refl
sak-by (Ok s) (Err fault) sak = refl
sak-by (Err fault) an sak = refl

sak-other : (words : List (List ℕ)) → tells (sak_of words) ≡ false
sak-other [] = refl
sak-other (sender ∷ []) = refl
sak-other (sender ∷ an ∷ []) = refl
sak-other (sender ∷ an ∷ key ∷ []) = sak-by (sender_in sender) (said association an) (said secret key)
sak-other (sender ∷ an ∷ key ∷ word ∷ words) = refl

-- a word of another length is not the word
other-word : (first : List ℕ) → length first < 7 → (b : Bool) → is_word first (codes "capture") ≡ b → b ≡ false
other-word first short true is = let l = as_long nat_eq first (codes "capture") is in absurd (omega (arith, l, short))
other-word first short false is = refl

by-words : (comment group sak capture : Bool) (words : List (List ℕ)) → capture ≡ false
    → is_capture (if comment then Ok None else result_map_both (λ line. Some line) (λ fault. fault)
    (if group then group_of words else if sak then sak_of words else if capture then capture_of words else Err Word)) ≡ false
by-words true group sak capture words other = refl
by-words false true sak capture words other = group-other words
by-words false false true capture words other = sak-other words
by-words false false false true words other = absurd (cc other)
by-words false false false false words other = refl

short-words : (words : List (List ℕ)) → AreWithin 6 words → is_capture (key_line_of_words words) ≡ false
short-words [] within = refl
short-words (first ∷ words) within =
    let short = within.0 in
    by-words (is_comment first) (is_word first (codes "group")) (is_word first (codes "sak")) (is_word first (codes "capture")) words
    (other-word first (omega (arith, short)) (is_word first (codes "capture")) refl)

within-more : (n : ℕ) (words : List (List ℕ)) → n < 7 → AreWithin n words → AreWithin 6 words
within-more n [] few within = tt
within-more n (word ∷ words) few within = (let w = within.0 in omega (arith, w, few), within-more n words few within.1)

by-length : (b : Bool) (read : Result (Option KeyLine) TextFault) → is_capture read ≡ false
    → is_capture (if b then Err TooLong else read) ≡ false
by-length true read other = refl
by-length false read other = other

pub short-other : (line : List ℕ) → length line < 7 → says_capture line ≡ false
unfolding key_line_in
short-other line few =
    by-length (nat_lt most_line (length line)) (key_line_of_words (words_of line))
    (short-words (words_of line) (within-more (length line) (words_of line) few (words-within line)))
