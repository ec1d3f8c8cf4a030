-- Whether a word spells octets, by its length and by what decodes it.
use Rattle.std.proofs.Common.{◌≡◌, ℕ, ◌+◌, ◌*◌, ◌/◌, ◌%◌, ◌==◌, Bool, true, false, List, [], ◌∷◌, ◌++◌, length, refl, sym, ap, ◌∙◌, arith, append_assoc}
use Rattle.std.specs.Prelude.{◌&&◌, Some, Result, Ok, Err, IsOk, is_ok, if◌then◌else◌}
use Rattle.std.specs.List.{list_all, AllPass}
use Rattle.std.specs.Result.{result_ok}
use Rattle.std.proofs.lemmas.Bool.{true≢false}
use Rattle.std.proofs.lemmas.List.{append-nil}
use Rattle.std.proofs.lemmas.Bool.Decides.{nat_tests}
use Rattle.std.proofs.lemmas.List.Sums.{AllPass-from_list_all, list_all-from_AllPass}
use Rattle.hex.specs.declared.error.FromHexError.{FromHexError}
use Rattle.hex.specs.Hex.{decode_of, decode_sized, encode_lower, encode_with, digit_or_error, hex_digit_value, is_hex_digit, pair_value, value_at}
use Rattle.hex.proofs.HexLemmas.{decode_of-digits, decode_of-ok}
use Rattle.trace_text.specs.declared.fault.TextFault.{TextFault}
use Rattle.trace_text.specs.declared.fault.TextFault.TheVariants.{Hex}
use Rattle.trace_text.specs.Kinds.{if_allowed, octets_of}
use Rattle.trace_text.specs.Answering.{checked}

-- a test that was passed, or the fault
abbrev pub passes : Bool → Result (Unit {0}) TextFault
passes test = if test then Ok tt else Err Hex

same_number : (n : ℕ) → (n == n) ≡ true
same_number n = grind (arith, nat_tests)

-- half as many octets as digits
pub half : (word : List ℕ) → decode_sized word (length word / 2) ≡ decode_of word
half word = rw (same_number (length word / 2)) refl

never : (b : Bool) → passes (b && false) ≡ Err Hex
never true = refl
never false = refl

allowed_alone : (b : Bool) (xs : List ℕ) → checked (if b then Ok xs else Err Hex) ≡ passes (b && true)
allowed_alone true xs = refl
allowed_alone false xs = refl

checked_by : (allowed : ℕ → Bool) (word : List ℕ) (r : Result (List ℕ) FromHexError) → decode_of word ≡ r
    → checked (if_allowed allowed (result_ok r)) ≡ passes (allowed (length word / 2) && is_ok r)
checked_by allowed word (Err e) d = sym (never (allowed (length word / 2)))
checked_by allowed word (Ok xs) d =
    let ok = decode_of-ok word xs d in
    let count : length xs ≡ length word / 2 = omega (arith, ok.2) in
    rw (← count) (allowed_alone (allowed (length xs)) xs)

-- what is checked of a word: its length, and whether it decodes
pub checked_as : (allowed : ℕ → Bool) (word : List ℕ) → checked (octets_of allowed word) ≡ passes (allowed (length word / 2) && is_ok (decode_of word))
checked_as allowed word = checked_by allowed word (decode_of word) refl

-- ---- digits one by one

ok_value : (r : Result (List ℕ) FromHexError) → is_ok r ≡ true → (bytes : List ℕ) × (r ≡ Ok bytes)
ok_value (Ok bytes) h = (bytes, refl)
ok_value (Err e) h = absurd cc

-- each octet of a word that spells octets is a digit
pub digits_of : (word : List ℕ) → IsOk (decode_of word) → AllPass is_hex_digit word
digits_of word h = let v = ok_of (decode_of word) h in (decode_of-ok word v.0 v.1).1
  where
    ok_of : (r : Result (List ℕ) FromHexError) → IsOk r → (bytes : List ℕ) × (r ≡ Ok bytes)
    ok_of (Ok bytes) h = (bytes, refl)
    ok_of (Err e) h = cc h

-- a word of pairs spells octets if each octet is a digit
pub spells : (word : List ℕ) → length word % 2 ≡ 0 → is_ok (decode_of word) ≡ list_all is_hex_digit word
spells word even = go (list_all is_hex_digit word) refl
  where
    go : (all : Bool) → list_all is_hex_digit word ≡ all → is_ok (decode_of word) ≡ all
    go true a = rw (decode_of-digits word even (AllPass-from_list_all is_hex_digit word a)).1 refl
    go false a = other (is_ok (decode_of word)) refl
      where
        other : (b : Bool) → is_ok (decode_of word) ≡ b → b ≡ false
        other true ok =
            let v = ok_value (decode_of word) ok in
            absurd (true≢false (sym (list_all-from_AllPass is_hex_digit word (decode_of-ok word v.0 v.1).1) ∙ a))
        other false ok = refl

-- the octet of two digits
pub pair_read : (high low i h l : ℕ) → hex_digit_value high ≡ Some h → hex_digit_value low ≡ Some l
    → pair_value high low i ≡ Ok (h * 16 + l)
pair_read high low i h l a b =
    let ha : value_at high i ≡ Ok h = ap (digit_or_error high i) a in
    let hb : value_at low (i + 1) ≡ Ok l = ap (digit_or_error low (i + 1)) b in
    rw (ha, hb) refl

-- ---- digits written in pieces

pub encode-append : (a b : List ℕ) → encode_lower (a ++ b) ≡ encode_lower a ++ encode_lower b
unfolding encode_with
encode-append [] b = refl
encode-append (x ∷ a) b = rw (encode-append a b) refl

-- a piece is written, and the others are left
pub piece_written : (whole old now next left piece rest : List ℕ) → left ≡ piece ++ rest → next ≡ now ++ encode_lower piece
    → old ++ encode_lower whole ≡ now ++ encode_lower left → old ++ encode_lower whole ≡ next ++ encode_lower rest
piece_written whole old now next left piece rest parts put before =
    before ∙ ap (λ (xs : List ℕ). now ++ encode_lower xs) parts ∙ ap (λ (xs : List ℕ). now ++ xs) (encode-append piece rest)
    ∙ sym (append_assoc now (encode_lower piece) (encode_lower rest)) ∙ ap (λ (xs : List ℕ). xs ++ encode_lower rest) (sym put)

pub all_written : (whole old now left : List ℕ) → (length left == 0) ≡ true
    → old ++ encode_lower whole ≡ now ++ encode_lower left → now ≡ old ++ encode_lower whole
unfolding encode_with
all_written whole old now [] none before = sym (before ∙ append-nil now)
all_written whole old now (x ∷ left) none before = absurd (grind (arith, nat_tests))
