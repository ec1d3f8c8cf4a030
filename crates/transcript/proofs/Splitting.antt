-- The words of a text, the first of them taken off.
use Rattle.std.proofs.Common.{◌≡◌, ℕ, suc, Bool, true, false, List, [], ◌∷◌, ◌++◌, length, take, drop, refl, sym, ap, ◌∙◌, arith}
use Rattle.std.specs.Prelude.{not, Some, None}
use Rattle.std.specs.List.{slice_split, onto_first, position_or_len, join_with_byte, list_all}
use Rattle.std.proofs.lemmas.List.{append-nil, length-append, length-take-le, take-append-drop}
use Rattle.std.proofs.lemmas.Slice.Eq.{bytes_eq-Decides}
use Rattle.std.proofs.lemmas.List.Splits.{slice_split-cons_yes, slice_split-cons_no, join_with_byte-slice_split}
use Rattle.transcript.specs.Rendering.{joined}
use Rattle.trace_text.specs.Words.{is_word}
use Rattle.trace_text.proofs.Public.{within}
use Rattle.transcript.specs.inside.Reading.{is_space, is_letter, ends_word, after, kept_if}
use Rattle.transcript.specs.inside.Taking.{words_behind}
use Rattle.transcript.proofs.Tests.{both, one-more}

abbrev pub first_of : List ℕ → List ℕ
first_of text = take (position_or_len is_space text) text

abbrev pub rest_of : List ℕ → List ℕ
rest_of text = drop (position_or_len is_space text) text

step : (x : ℕ) (xs : List ℕ) → slice_split is_space xs ≡ first_of xs ∷ words_behind (rest_of xs) → (b : Bool) → is_space x ≡ b
    → slice_split is_space (x ∷ xs) ≡ first_of (x ∷ xs) ∷ words_behind (rest_of (x ∷ xs))
step x xs ih true space =
    let none : position_or_len is_space (x ∷ xs) ≡ 0 = rw space refl in
    slice_split-cons_yes is_space x xs space ∙ rw none refl
step x xs ih false word =
    let more : position_or_len is_space (x ∷ xs) ≡ suc (position_or_len is_space xs) = rw word (one-more (position_or_len is_space xs)) in
    slice_split-cons_no is_space x xs word ∙ ap (onto_first x) ih ∙ rw more refl

pub first_word : (text : List ℕ) → slice_split is_space text ≡ first_of text ∷ words_behind (rest_of text)
first_word [] = refl
first_word (x ∷ xs) = step x xs (first_word xs) (is_space x) refl

pub split_at : (text front back : List ℕ) (n : ℕ) → n ≡ position_or_len is_space text → front ≡ take n text → back ≡ drop n text
    → slice_split is_space text ≡ front ∷ words_behind back
split_at text front back n e f b = rw (f, b, e) (first_word text)

joined_words : (first : List ℕ) (others : List (List ℕ)) → join_with_byte 32 (first ∷ others) ≡ joined (first ∷ others)
joined_words first [] = sym (append-nil first)
joined_words first (word ∷ others) = ap (λ text. first ++ 32 ∷ text) (joined_words word others)

-- the words of a text, joined again
pub joined_again : (text : List ℕ) → joined (slice_split is_space text) ≡ text
joined_again text =
    ap joined (first_word text) ∙ sym (joined_words (first_of text) (words_behind (rest_of text)))
    ∙ ap (join_with_byte 32) (sym (first_word text)) ∙ join_with_byte-slice_split 32 text

-- ---- letters before what stands behind them

abbrev Plain : List ℕ → Type 0
Plain letters = list_all is_letter letters ≡ true

plain_first : (x : ℕ) (xs : List ℕ) → Plain (x ∷ xs) → (is_space x ≡ false) × Plain xs
plain_first x xs plain =
    let p = both (is_letter x) (list_all is_letter xs) plain in (is_false (is_space x) p.0, p.1)
  where
    is_false : (b : Bool) → not b ≡ true → b ≡ false
    is_false true e = absurd cc
    is_false false e = refl

onto : (x : ℕ) (xs word : List ℕ) (words : List (List ℕ)) → is_space x ≡ false → slice_split is_space xs ≡ word ∷ words
    → slice_split is_space (x ∷ xs) ≡ (x ∷ word) ∷ words
onto x xs word words letter e = slice_split-cons_no is_space x xs letter ∙ ap (onto_first x) e

ended : (back : List ℕ) → ends_word back ≡ true → slice_split is_space back ≡ [] ∷ words_behind back
ended [] ends = refl
ended (x ∷ xs) ends = slice_split-cons_yes is_space x xs ends

-- the letters are the first word
labelled : (letters back : List ℕ) → Plain letters → ends_word back ≡ true
    → slice_split is_space (letters ++ back) ≡ letters ∷ words_behind back
labelled [] back plain ends = ended back ends
labelled (x ∷ xs) back plain ends =
    let p = plain_first x xs plain in onto x (xs ++ back) xs (words_behind back) p.0 (labelled xs back p.1 ends)

longer : (letters : List ℕ) (x : ℕ) (more : List ℕ) → Plain letters → is_space x ≡ false
    → slice_split is_space (letters ++ x ∷ more) ≡ (letters ++ x ∷ first_of more) ∷ words_behind (rest_of more)
longer [] x more plain letter = onto x more (first_of more) (words_behind (rest_of more)) letter (first_word more)
longer (y ∷ ys) x more plain letter =
    let p = plain_first y ys plain in
    onto y (ys ++ x ∷ more) (ys ++ x ∷ first_of more) (words_behind (rest_of more)) p.0 (longer ys x more p.1 letter)

other_word : (word letters : List ℕ) → (word ≡ letters → ⊥) → is_word word letters ≡ false
other_word word letters apart = go (is_word word letters) refl
  where
    go : (b : Bool) → is_word word letters ≡ b → b ≡ false
    go true e = absurd (apart ((bytes_eq-Decides word letters).0 e))
    go false e = refl

unlabelled : (letters word : List ℕ) (words : List (List ℕ)) → (word ≡ letters → ⊥) → after letters (word ∷ words) ≡ None
unlabelled letters word words apart = ap (λ b. kept_if b words) (other_word word letters apart)

-- the text goes on behind the letters
parts : (text letters back : List ℕ) → is_word (take (length letters) text) letters ≡ true → back ≡ drop (length letters) text
    → text ≡ letters ++ back
parts text letters back same rest =
    sym (take-append-drop (length letters) text)
    ∙ ap (λ front. front ++ drop (length letters) text) ((bytes_eq-Decides (take (length letters) text) letters).0 same)
    ∙ ap (λ back. letters ++ back) (sym rest)

pub label_there : (text letters back : List ℕ) → Plain letters → is_word (take (length letters) text) letters ≡ true
    → back ≡ drop (length letters) text → ends_word back ≡ true → after letters (slice_split is_space text) ≡ Some (words_behind back)
label_there text letters back plain same rest ends =
    ap (λ (t : List ℕ). after letters (slice_split is_space t)) (parts text letters back same rest)
    ∙ ap (after letters) (labelled letters back plain ends)
    ∙ ap (λ b. kept_if b (words_behind back)) ((bytes_eq-Decides letters letters).1 refl)

pub label_longer : (text letters back : List ℕ) → Plain letters → is_word (take (length letters) text) letters ≡ true
    → back ≡ drop (length letters) text → ends_word back ≡ false → after letters (slice_split is_space text) ≡ None
label_longer text letters [] plain same rest ends = absurd (cc ends)
label_longer text letters (x ∷ more) plain same rest ends =
    ap (λ (t : List ℕ). after letters (slice_split is_space t)) (parts text letters (x ∷ more) same rest)
    ∙ ap (after letters) (longer letters x more plain ends)
    ∙ unlabelled letters (letters ++ x ∷ first_of more) (words_behind (rest_of more))
    (λ e. let size = ap length e in absurd (omega (arith, size, length-append letters (x ∷ first_of more))))

pub label_not : (text letters : List ℕ) → is_word (take (length letters) text) letters ≡ false
    → after letters (slice_split is_space text) ≡ None
label_not text letters other =
    ap (after letters) (first_word text)
    ∙ unlabelled letters (first_of text) (words_behind (rest_of text)) (λ e.
    let place = position_or_len is_space text in
    let size : place ≡ length letters = sym (length-take-le place text (within is_space text place refl)) ∙ ap length e in
    let same : take (length letters) text ≡ letters = ap (λ n. take n text) (sym size) ∙ e in
    absurd (cc (sym ((bytes_eq-Decides (take (length letters) text) letters).1 same) ∙ other)))
