-- Words of 1 to 10 decimal digits, as std parses them.
use Rattle.std.proofs.Common.{◌≡◌, ℕ, ◌^◌, ◌<◌, ◌≤◌, ◌==◌, Bool, true, false, List, [], ◌∷◌, length, refl, sym, ap, ◌∙◌, subst, arith}
use Rattle.std.specs.Prelude.{◌&&◌, nat_lt, nat_le, Some, Result, Ok, Err}
use Rattle.std.specs.List.{list_all}
use Rattle.std.specs.Char.{is_ascii_digit}
use Rattle.std.specs.Result.{OkIff, result_ok}
use Rattle.std.specs.Str.{IsUtf8}
use Rattle.std.specs.Str.Parse.{digits_value, AllDigits, IsNumeral, ParsesUnsigned, without_leading_plus}
use Rattle.std.proofs.lemmas.Int.Digits.{digits_value-lt}
use Rattle.std.proofs.lemmas.Bool.Decides.{nat_tests}
use Rattle.std.proofs.lemmas.List.Elements.{All-weaker}
use Rattle.std.proofs.lemmas.List.Sums.{AllPass-from_list_all}
use Rattle.std.proofs.lemmas.Str.{digit_value_digit, IsUtf8-from_ascii}
use Rattle.std.proofs.lemmas.Str.Ascii.{IsAscii-from_all}
use Rattle.std.proofs.Math.Nat.{pow-le-pow_right}
use Rattle.trace_text.specs.Kinds.{is_number}

pub both : (a b : Bool) → a && b ≡ true → (a ≡ true) × (b ≡ true)
both true true h = (refl, refl)
both true false h = absurd cc
both false b h = absurd cc

in_range : (c : ℕ) → is_ascii_digit c ≡ true → (48 ≤ c) × (c ≤ 57)
in_range c h = (grind (arith, nat_tests), grind (arith, nat_tests))

all_digits : (word : List ℕ) → list_all is_ascii_digit word ≡ true → AllDigits 10 word
all_digits [] h = tt
all_digits (c ∷ word) h =
    let parts = both (is_ascii_digit c) (list_all is_ascii_digit word) h in
    let range = in_range c parts.0 in
    (omega (arith, digit_value_digit c range), all_digits word parts.1)

-- the parts of what is asked of a number
few : (word : List ℕ) → is_number word ≡ true → length word ≤ 10
few word h = grind (arith, nat_tests)

digits : (word : List ℕ) → is_number word ≡ true → list_all is_ascii_digit word ≡ true
digits word h = (both (nat_lt 0 (length word) && nat_le (length word) 10) (list_all is_ascii_digit word) h).1

some : (word : List ℕ) → is_number word ≡ true → 0 < length word
some word h = grind (arith, nat_tests)

small : (octet : ℕ) → is_ascii_digit octet ≡ true → octet < 128
small octet e = grind (arith, nat_tests)

-- such a word is text
pub is_text : (word : List ℕ) → is_number word ≡ true → IsUtf8 word
is_text word h =
    IsUtf8-from_ascii word (IsAscii-from_all word
    (All-weaker (λ octet. is_ascii_digit octet ≡ true) (λ octet. octet < 128) small word (AllPass-from_list_all is_ascii_digit word (digits word h))))

no_plus : (word : List ℕ) → 0 < length word → list_all is_ascii_digit word ≡ true → without_leading_plus word ≡ word
no_plus [] more h = absurd (omega arith)
no_plus (c ∷ word) more h =
    let range = in_range c (both (is_ascii_digit c) (list_all is_ascii_digit word) h).0 in
    let other : (c == 43) ≡ false = grind (arith, nat_tests, range) in
    rw other refl

-- its number is that of its digits, and fits
fits : (word : List ℕ) → is_number word ≡ true → digits_value 10 word < 2 ^ 64
fits word h =
    let short = few word h in
    let grows : 10 ^ length word ≤ 10 ^ 10 = pow-le-pow_right {n = 10} (omega arith) {i = length word} {j = 10} short in
    omega (arith, digits_value-lt 10 word (all_digits word (digits word h)), grows)

read_as : {E : Type 0} (word text : List ℕ) (r : Result ℕ E) → text ≡ word → is_number word ≡ true → OkIff r (IsNumeral 10 text × (digits_value 10 text < 2 ^ 64)) (digits_value 10 text)
    → result_ok r ≡ Some (digits_value 10 word)
read_as word text (Ok n) same h p = ap Some (p.1 ∙ ap (digits_value 10) same)
read_as word text (Err e) same h none =
    let numeral : IsNumeral 10 text = subst (IsNumeral 10) (sym same) (some word h, all_digits word (digits word h)) in
    let small_enough : digits_value 10 text < 2 ^ 64 = subst (λ t. digits_value 10 t < 2 ^ 64) (sym same) (fits word h) in
    absurd (none (numeral, small_enough))

pub parsed : {E : Type 0} (word : List ℕ) (r : Result ℕ E) → is_number word ≡ true → ParsesUnsigned 64 10 word r → result_ok r ≡ Some (digits_value 10 word)
parsed word r h p = read_as word (without_leading_plus word) r (no_plus word (some word h) (digits word h)) h p
