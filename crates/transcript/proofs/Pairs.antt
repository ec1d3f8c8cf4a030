-- Pairs of hexadecimal digits in lower case.
use Rattle.std.proofs.Common.{◌≡◌, ℕ, suc, ◌+◌, ◌*◌, ◌/◌, ◌%◌, ◌<◌, ◌≤◌, Bool, true, false, List, [], ◌∷◌, length, refl, sym, ap, ◌∙◌, inl, inr, arith}
use Rattle.std.specs.Prelude.{◌⊎◌, ◌==◌, ◌&&◌, Option, Some, None, Result, Ok, Err, IsOk, IsSome, slice_index}
use Rattle.std.specs.List.{list_all}
use Rattle.std.specs.Result.{result_ok}
use Rattle.std.proofs.lemmas.Bool.Decides.{nat_tests}
use Rattle.std.proofs.lemmas.List.Elements.{All-get_or, All-weaker}
use Rattle.std.proofs.lemmas.List.Sums.{AllPass-from_list_all}
use Rattle.hex.specs.declared.error.FromHexError.{FromHexError}
use Rattle.hex.specs.Hex.{encode_with, encode_lower, lower_digits, hex_digit_value, is_hex_digit, digit_or_error, value_at, pair_value, decode_pairs, decode_of, decode_sized, ◌>>=◌, IsBytes}
use Rattle.hex.proofs.HexLemmas.{length-encode_with, decode_of-even, decode_of-ok, decode_of-digits, decode_sized-twice, decode_sized-ok, IsDigits-lower_digits}
use Rattle.transcript.proofs.Tests.{both}
use Rattle.transcript.specs.inside.Reading.{is_small_digit, is_pairs, octets_of, array_of, kept_if}

small_digit : (d : ℕ) → d < 16 → is_small_digit (slice_index lower_digits d) ≡ true
small_digit d small =
    All-get_or (λ c. is_small_digit c ≡ true) lower_digits d 0 small (AllPass-from_list_all is_small_digit lower_digits refl)

small_digits : (xs : List ℕ) → IsBytes xs → list_all is_small_digit (encode_lower xs) ≡ true
unfolding encode_with
small_digits [] bytes = refl
small_digits (x ∷ xs) bytes =
    let byte : x < 256 = bytes 0 in
    rw (small_digit (x / 16) (omega arith), small_digit (x % 16) (omega arith), small_digits xs (λ k. bytes (suc k))) refl

pub pairs_written : (xs : List ℕ) → IsBytes xs → is_pairs (encode_lower xs) ≡ true
pairs_written xs bytes =
    let digits = length-encode_with lower_digits xs in
    let even : (length (encode_lower xs) % 2 == 0) ≡ true = grind (arith, nat_tests, digits) in
    rw (even, small_digits xs bytes) refl

-- a digit in lower case has the value v only if it is the digit of v
value_small : (c v : ℕ) → is_small_digit c ≡ true → hex_digit_value c ≡ Some v
    → ((c ≡ v + 48) × (v < 10)) ⊎ ((c ≡ v + 87) × (10 ≤ v) × (v < 16))
value_small c v small e = grind (arith, nat_tests)

same_digit : (c d v : ℕ) → is_small_digit c ≡ true → is_small_digit d ≡ true → hex_digit_value c ≡ Some v → hex_digit_value d ≡ Some v → c ≡ d
same_digit c d v c_small d_small ce de =
    elim (value_small c v c_small ce) [
      | inl low ↦ elim (value_small d v d_small de) [ inl l ↦ omega (arith, low.0, l.0) | inr h ↦ absurd (omega (arith, low.1, h.1)) ]
      | inr high ↦ elim (value_small d v d_small de) [ inl l ↦ absurd (omega (arith, high.1, l.1)) | inr h ↦ omega (arith, high.0, h.0) ]
    ]

value_below : (c v : ℕ) → is_small_digit c ≡ true → hex_digit_value c ≡ Some v → v < 16
value_below c v small e =
    elim (value_small c v small e) [ inl low ↦ omega (arith, low.1) | inr high ↦ high.2 ]

digit_back : (c v : ℕ) → is_small_digit c ≡ true → hex_digit_value c ≡ Some v → slice_index lower_digits v ≡ c
digit_back c v small e =
    let below = value_below c v small e in
    same_digit (slice_index lower_digits v) c v (small_digit v below) small (IsDigits-lower_digits v below) e

step_ok : {A B : Type 0} (r : Result A FromHexError) (f : A → Result B FromHexError) (y : B) → (r >>= f) ≡ Ok y → (x : A) × (r ≡ Ok x) × (f x ≡ Ok y)
step_ok (Ok x) f y e = (x, refl, e)
step_ok (Err fault) f y e = absurd cc

abbrev ok_or : {A : Type 0} → A → Result A FromHexError → A
ok_or d (Ok x) = x
ok_or d (Err e) = d

abbrev fine : {A : Type 0} → A → Result A FromHexError
fine x = Ok x

same_ok : {A : Type 0} (x y : A) → fine x ≡ fine y → x ≡ y
same_ok x y e = ap (ok_or x) e

digit_read : (c i : ℕ) (o : Option ℕ) (v : ℕ) → digit_or_error c i o ≡ Ok v → o ≡ Some v
digit_read c i (Some w) v e = ap (λ n. Some n) (same_ok w v e)
digit_read c i None v e = absurd cc

pairs_back : (i : ℕ) (s xs : List ℕ) → list_all is_small_digit s ≡ true → decode_pairs i s ≡ Ok xs → encode_lower xs ≡ s
unfolding decode_pairs encode_with
pairs_back i [] xs small e = rw (sym (same_ok [] xs e)) refl
pairs_back i (a ∷ []) xs small e = absurd cc
pairs_back i (a ∷ b ∷ rest) xs small e =
    let sa = both (is_small_digit a) (is_small_digit b && list_all is_small_digit rest) small in
    let sb = both (is_small_digit b) (list_all is_small_digit rest) sa.1 in
    let p0 = step_ok (pair_value a b i) _ xs e in
    let p1 = step_ok (value_at a i) _ p0.0 p0.1 in
    let p2 = step_ok (value_at b (i + 1)) _ p0.0 p1.2 in
    let p3 = step_ok (decode_pairs (i + 2) rest) _ xs p0.2 in
    let ea = digit_read a i (hex_digit_value a) p1.0 p1.1 in
    let eb = digit_read b (i + 1) (hex_digit_value b) p2.0 p2.1 in
    let la = value_below a p1.0 sa.0 ea in
    let lb = value_below b p2.0 sb.0 eb in
    let byte : p1.0 * 16 + p2.0 ≡ p0.0 = same_ok (p1.0 * 16 + p2.0) p0.0 p2.2 in
    let high : p0.0 / 16 ≡ p1.0 = omega (arith, byte, la, lb) in
    let low : p0.0 % 16 ≡ p2.0 = omega (arith, byte, la, lb) in
    let whole : p0.0 ∷ p3.0 ≡ xs = same_ok (p0.0 ∷ p3.0) xs p3.2 in
    let ih = pairs_back (i + 2) rest p3.0 sb.1 p3.1 in
    rw (sym whole, high, low, digit_back a p1.0 sa.0 ea, digit_back b p2.0 sb.0 eb, ih) refl

even_of : (word : List ℕ) → is_pairs word ≡ true → (length word % 2 ≡ 0) × (list_all is_small_digit word ≡ true)
even_of word pairs =
    let p = both (length word % 2 == 0) (list_all is_small_digit word) pairs in
    (grind (arith, nat_tests, p.0), p.1)

-- pairs of digits are what their octets are written as
pub written_back : (word xs : List ℕ) → is_pairs word ≡ true → decode_of word ≡ Ok xs → (encode_lower xs ≡ word) × IsBytes xs
written_back word xs pairs e =
    let p = even_of word pairs in
    (pairs_back 0 word xs p.1 (sym (decode_of-even word p.0) ∙ e), (decode_of-ok word xs e).3)

hex_digit : (c : ℕ) → is_small_digit c ≡ true → is_hex_digit c ≡ true
hex_digit c small = grind (arith, nat_tests)

-- pairs of digits spell octets
pub decoded : (word : List ℕ) → is_pairs word ≡ true → (xs : List ℕ) × (decode_of word ≡ Ok xs)
decoded word pairs =
    let p = even_of word pairs in
    decode_of-digits word p.0
    (All-weaker (λ c. is_small_digit c ≡ true) (λ c. is_hex_digit c ≡ true) hex_digit word (AllPass-from_list_all is_small_digit word p.1))

refused : (word : List ℕ) (count : ℕ) (r : Result (List ℕ) FromHexError) → decode_sized word count ≡ r → (length word ≡ 2 * count → ⊥) → result_ok r ≡ None
refused word count (Ok xs) e other = absurd (other (decode_sized-ok word count xs e))
refused word count (Err fault) e other = refl

sized_by : (word xs : List ℕ) (count : ℕ) → is_pairs word ≡ true → decode_of word ≡ Ok xs → (b : Bool) → (length xs == count) ≡ b
    → result_ok (decode_sized word count) ≡ kept_if b xs
sized_by word xs count pairs e true same =
    let digits = (decode_of-ok word xs e).2 in
    let n : length xs ≡ count = grind (arith, nat_tests, same) in
    ap result_ok (decode_sized-twice word count (omega (arith, digits, n)) ∙ e)
sized_by word xs count pairs e false other =
    let digits = (decode_of-ok word xs e).2 in
    let not_same : length xs ≡ count → ⊥ = λ n. absurd (grind (arith, nat_tests, other, n)) in
    refused word count (decode_sized word count) refl (λ size. not_same (omega (arith, digits, size)))

pub sized : (word : List ℕ) (count : ℕ) → is_pairs word ≡ true → result_ok (decode_sized word count) ≡ array_of count word
sized word count pairs =
    let d = decoded word pairs in
    sized_by word d.0 count pairs d.1 (length d.0 == count) refl ∙ rw (pairs, d.1) refl

pub spelled_some : (word : List ℕ) → is_pairs word ≡ true → IsSome (octets_of word)
spelled_some word pairs = rw (pairs, (decoded word pairs).1) refl

pub decodes : (word : List ℕ) → is_pairs word ≡ true → IsOk (decode_of word)
decodes word pairs = rw (decoded word pairs).1 refl
