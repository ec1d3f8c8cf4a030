-- The first word of a line.
use Rattle.std.proofs.Common.{◌≡◌, ℕ, suc, ◌+◌, ◌<◌, ◌≤◌, Bool, true, false, List, [], ◌∷◌, length, take, drop, get_or, refl, sym, ap, ◌∙◌, arith, length-drop}
use Rattle.std.specs.Prelude.{not, nat_lt, nat_eq, filter, Option, Some, None, if◌then◌else◌}
use Rattle.std.specs.Option.{unwrap_or}
use Rattle.std.specs.List.{slice_split, onto_first, position_or_len}
use Rattle.std.proofs.lemmas.List.Splits.{slice_split-cons_yes, slice_split-cons_no}
use Rattle.std.proofs.lemmas.Bool.Decides.{nat_tests}
use Rattle.std.proofs.lemmas.List.Sums.{position_or_len_is}
use Rattle.memchr.specs.Find.{IsFirstByte}
use Rattle.trace_text.specs.Words.{is_blank, words_of}

abbrev pub kept : List (List ℕ) → List (List ℕ)
kept pieces = filter (λ word. nat_lt 0 (length word)) pieces

-- a piece that is not empty is kept
pub kept-cons : (piece : List ℕ) (others : List (List ℕ)) → 0 < length piece → kept (piece ∷ others) ≡ piece ∷ kept others
kept-cons piece others some =
    let test : nat_lt 0 (length piece) ≡ true = grind (arith, nat_tests) in
    rw test refl

one_more : (n : ℕ) → 1 + n ≡ suc n
one_more n = omega arith

-- a blank at the front
words_of-blank : (x : ℕ) (xs : List ℕ) → is_blank x ≡ true → words_of (x ∷ xs) ≡ words_of xs
words_of-blank x xs blank = ap kept (slice_split-cons_yes is_blank x xs blank)

-- the first piece of a line, and the others
record Pieces (xs : List ℕ) : Type 0 where
  first : List ℕ
  others : List (List ℕ)
  split : slice_split is_blank xs ≡ first ∷ others
  front : first ≡ take (position_or_len is_blank xs) xs
  back : kept others ≡ words_of (drop (position_or_len is_blank xs) xs)

pieces_step : (x : ℕ) (xs : List ℕ) → Pieces xs → (b : Bool) → is_blank x ≡ b → Pieces (x ∷ xs)
pieces_step x xs p true blank =
    let none : position_or_len is_blank (x ∷ xs) ≡ 0 = rw blank refl in
    record {
      first = [];
      others = slice_split is_blank xs;
      split = slice_split-cons_yes is_blank x xs blank;
      front = rw none refl;
      back = rw none (sym (words_of-blank x xs blank));
    }
pieces_step x xs p false word =
    let more : position_or_len is_blank (x ∷ xs) ≡ suc (position_or_len is_blank xs) = rw word (one_more (position_or_len is_blank xs)) in
    record {
      first = x ∷ p.first;
      others = p.others;
      split = slice_split-cons_no is_blank x xs word ∙ ap (onto_first x) p.split;
      front = rw more (ap (λ w. x ∷ w) p.front);
      back = rw more p.back;
    }

pieces : (xs : List ℕ) → Pieces xs
pieces [] = record { first = []; others = []; split = refl; front = refl; back = refl }
pieces (x ∷ xs) = pieces_step x xs (pieces xs) (is_blank x) refl

-- a word at the front, and the words behind it
first_word : (x : ℕ) (xs : List ℕ) → Pieces xs → is_blank x ≡ false
    → words_of (x ∷ xs) ≡ take (position_or_len is_blank (x ∷ xs)) (x ∷ xs) ∷ words_of (drop (position_or_len is_blank (x ∷ xs)) (x ∷ xs))
first_word x xs p word =
    let more : position_or_len is_blank (x ∷ xs) ≡ suc (position_or_len is_blank xs) = rw word (one_more (position_or_len is_blank xs)) in
    let split : slice_split is_blank (x ∷ xs) ≡ (x ∷ p.first) ∷ p.others = slice_split-cons_no is_blank x xs word ∙ ap (onto_first x) p.split in
    let keep : kept ((x ∷ p.first) ∷ p.others) ≡ (x ∷ p.first) ∷ kept p.others = kept-cons (x ∷ p.first) p.others (omega arith) in
    let front : (x ∷ p.first) ∷ kept p.others ≡ (x ∷ take (position_or_len is_blank xs) xs) ∷ kept p.others = ap (λ w. (x ∷ w) ∷ kept p.others) p.front in
    let back : (x ∷ take (position_or_len is_blank xs) xs) ∷ kept p.others ≡ (x ∷ take (position_or_len is_blank xs) xs) ∷ words_of (drop (position_or_len is_blank xs) xs) = ap (λ ws. (x ∷ take (position_or_len is_blank xs) xs) ∷ ws) p.back in
    ap kept split ∙ keep ∙ rw more (front ∙ back)

abbrev blanks : List ℕ → ℕ
blanks line = position_or_len (λ octet. not (is_blank octet)) line

-- what stands behind the blanks at the front
record Behind (line : List ℕ) : Type 0 where
  same : words_of line ≡ words_of (drop (blanks line) line)
  word : (x : ℕ) (xs : List ℕ) → drop (blanks line) line ≡ x ∷ xs → is_blank x ≡ false

behind_step : (x : ℕ) (xs : List ℕ) → Behind xs → (b : Bool) → is_blank x ≡ b → Behind (x ∷ xs)
behind_step x xs p true blank =
    let more : blanks (x ∷ xs) ≡ suc (blanks xs) = rw blank (one_more (blanks xs)) in
    record {
      same = rw more (words_of-blank x xs blank ∙ p.same);
      word = rw more p.word;
    }
behind_step x xs p false none =
    let start : blanks (x ∷ xs) ≡ 0 = rw none refl in
    record {
      same = rw start refl;
      word = rw start (λ y ys e. sym (ap (λ zs. is_blank (get_or zs 0 0)) e) ∙ none);
    }

behind : (line : List ℕ) → Behind line
behind [] = record { same = refl; word = λ x xs e. absurd cc }
behind (x ∷ xs) = behind_step x xs (behind xs) (is_blank x) refl

pub words_of-none : (line rest : List ℕ) (n : ℕ) → rest ≡ drop n line → n ≡ blanks line → nat_eq (length rest) 0 ≡ true → words_of line ≡ []
words_of-none line [] n e start none =
    (behind line).same ∙ ap words_of (ap (λ k. drop k line) (sym start) ∙ sym e)
words_of-none line (x ∷ xs) n e start none = absurd (grind (arith, nat_tests))

pub words_of-first : (line rest front back : List ℕ) (n m : ℕ) → rest ≡ drop n line → n ≡ blanks line → nat_eq (length rest) 0 ≡ false
    → m ≡ position_or_len is_blank rest → front ≡ take m rest → back ≡ drop m rest → words_of line ≡ front ∷ words_of back
words_of-first line [] front back n m e start some count f b = absurd (grind (arith, nat_tests))
words_of-first line (x ∷ xs) front back n m e start some count f b =
    let p = behind line in
    let here : drop (blanks line) line ≡ x ∷ xs = ap (λ k. drop k line) (sym start) ∙ sym e in
    let ends : position_or_len is_blank (x ∷ xs) ≡ m = sym count in
    p.same ∙ ap words_of here ∙ first_word x xs (pieces xs) (p.word x xs here) ∙ rw (ends, f, b) refl

-- what stands behind the first word is shorter than the line
pub shorter : (line rest back : List ℕ) (n m : ℕ) → rest ≡ drop n line → n ≡ blanks line → nat_eq (length rest) 0 ≡ false
    → m ≡ position_or_len is_blank rest → back ≡ drop m rest → length back < length line
shorter line [] back n m e start some count b = absurd (grind (arith, nat_tests))
shorter line (x ∷ xs) back n m e start some count b =
    let here : drop (blanks line) line ≡ x ∷ xs = ap (λ k. drop k line) (sym start) ∙ sym e in
    let word : is_blank x ≡ false = (behind line).word x xs here in
    let more : position_or_len is_blank (x ∷ xs) ≡ suc (position_or_len is_blank xs) = rw word (one_more (position_or_len is_blank xs)) in
    let fewer : length (x ∷ xs) ≤ length line = omega (arith, ap length e, length-drop n line) in
    omega (arith, ap length b, length-drop m (x ∷ xs), count, more, fewer)

le_step : (p : ℕ → Bool) (x : ℕ) (xs : List ℕ) → position_or_len p xs ≤ length xs → (b : Bool) → p x ≡ b → position_or_len p (x ∷ xs) ≤ length (x ∷ xs)
le_step p x xs h true e = rw e (omega arith)
le_step p x xs h false e = rw e (omega (arith, h))

position_or_len-le : (p : ℕ → Bool) (xs : List ℕ) → position_or_len p xs ≤ length xs
position_or_len-le p [] = omega arith
position_or_len-le p (x ∷ xs) = le_step p x xs (position_or_len-le p xs) (p x) refl

-- the first place that passes, or the length
pub counted : (p : ℕ → Bool) (xs : List ℕ) → unwrap_or (if nat_lt (position_or_len p xs) (length xs) then Some (position_or_len p xs) else None) (length xs) ≡ position_or_len p xs
counted p xs = grind (arith, nat_tests, position_or_len-le p xs)

never : (b : Bool) → (b ≡ true → ⊥) → b ≡ false
never true other = absurd (other refl)
never false other = refl

-- the first place at which a search finds such an octet, or the length
pub first_place : (p : ℕ → Bool) (xs : List ℕ) (r : Option ℕ) → IsFirstByte p xs r → unwrap_or r (length xs) ≡ position_or_len p xs
first_place p xs None nowhere =
    sym (position_or_len_is p xs (length xs) 0 (omega arith) (λ k lt. never (p (get_or xs k 0)) (nowhere k (omega arith) lt)) (λ lt. absurd (omega (arith, lt))))
first_place p xs (Some k) found =
    let high = found.0.high in
    sym (position_or_len_is p xs k 0 (omega (arith, high)) (λ j lt. never (p (get_or xs j 0)) (found.0.before j (omega arith) lt)) (λ lt. found.1))

pub within : (p : ℕ → Bool) (xs : List ℕ) (n : ℕ) → n ≡ position_or_len p xs → n ≤ length xs
within p xs n e = omega (arith, e, position_or_len-le p xs)
