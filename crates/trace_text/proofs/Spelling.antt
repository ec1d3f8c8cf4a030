-- A spelled word is a word, and says the same again.
use Rattle.std.proofs.Common.{◌≡◌, ℕ, ◌<◌, ◌≤◌, ◌^◌, Bool, true, false, List, [], ◌∷◌, length, refl, sym, ap, ◌∙◌, inl, inr, arith}
use Rattle.std.specs.Prelude.{Some, Ok, Err, if◌then◌else◌, ◌&&◌, ◌⊎◌, nat_lt, nat_le, decimal}
use Rattle.std.specs.List.{All, AllPass, list_all}
use Rattle.std.specs.Char.{is_ascii_digit, is_ascii_alphanumeric}
use Rattle.std.specs.Option.{ok_or}
use Rattle.std.specs.Str.Parse.{digits_value}
use Rattle.std.proofs.lemmas.Bool.Decides.{nat_tests}
use Rattle.std.proofs.lemmas.Fmt.{decimal_is_IsNumeral, length-decimal-le, decimal_nonempty}
use Rattle.std.proofs.lemmas.List.Elements.{All-weaker}
use Rattle.std.proofs.lemmas.List.Sums.{AllPass-from_list_all}
use Rattle.hex.specs.Hex.{encode_lower, lower_digits, is_hex_digit, IsBytes}
use Rattle.hex.proofs.HexLemmas.{decode_of-ok, decode_of-encode_lower, decode_sized-encode_lower, length-encode_with}
use Rattle.lan_base.specs.declared.suite.Suite.{Suite}
use Rattle.lan_base.specs.declared.suite.Suite.TheVariants.{GcmAes128, GcmAes256}
use Rattle.lan_base.specs.Name.{is_name}
use Rattle.lan_base.specs.Suites.{key_bits, suite_of}
use Rattle.trace_text.specs.declared.fault.TextFault.TheVariants.{Range}
use Rattle.trace_text.specs.Words.{is_blank}
use Rattle.trace_text.specs.Kinds.{Kind, name, number, suite, exactly, octets, secret, Said, said, spelled, IsFit, is_number, number_of, suite_in, is_within, is_either, octets_of, exactly_of}
use Rattle.trace_text.proofs.Characters.{name_characters, decimal_digits}
use Rattle.trace_text.proofs.Spacing.{IsWord}

-- the words of a kind are not empty, and its numbers have at most ten digits
abbrev pub IsPlain : Kind → Type 0
IsPlain name = Unit {0}
IsPlain (number low high) = high < 10000000000
IsPlain suite = Unit {0}
IsPlain (exactly count) = 0 < count
IsPlain (octets low high) = 0 < low
IsPlain secret = Unit {0}

space_or_tab : (octet : ℕ) → is_blank octet ≡ true → (octet ≡ 32) ⊎ (octet ≡ 9)
space_or_tab octet e = grind (arith, nat_tests)

differ : (p : ℕ → Bool) (octet : ℕ) (b : Bool) → is_blank octet ≡ b → p 32 ≡ false → p 9 ≡ false → p octet ≡ true → b ≡ false
differ p octet true e space tab passes =
    elim (space_or_tab octet e) [
      | inl s ↦ sym passes ∙ ap p s ∙ space
      | inr t ↦ sym passes ∙ ap p t ∙ tab
    ]
differ p octet false e space tab passes = refl

-- octets that all pass a test which no blank passes
whole_by : (p : ℕ → Bool) (word : List ℕ) → p 32 ≡ false → p 9 ≡ false → AllPass p word → All (λ octet. is_blank octet ≡ false) word
whole_by p word space tab all =
    All-weaker (λ octet. p octet ≡ true) (λ octet. is_blank octet ≡ false) (λ octet passes. differ p octet (is_blank octet) refl space tab passes) word all

name_word : (n : List ℕ) → is_name n ≡ true → IsWord n
name_word [] e = absurd cc
name_word (first ∷ others) e =
    record {
      some = omega arith;
      whole = whole_by is_ascii_alphanumeric (first ∷ others) refl refl (name_characters (first ∷ others) e);
    }

number_word : (n : ℕ) → n < 10000000000 → IsWord (decimal n)
number_word n small =
    let fits : n < 2 ^ 64 = omega arith in
    record {
      some = decimal_nonempty n fits;
      whole = whole_by is_ascii_digit (decimal n) refl refl (AllPass-from_list_all is_ascii_digit (decimal n) (decimal_digits n fits));
    }

three : (a b c : Bool) → a ≡ true → b ≡ true → c ≡ true → a && b && c ≡ true
three a b c ea eb ec = rw (ea, eb, ec) refl

decimal_number : (n : ℕ) → n < 10000000000 → is_number (decimal n) ≡ true
decimal_number n small =
    let fits : n < 2 ^ 64 = omega arith in
    let power : n < 10 ^ 10 = omega arith in
    let some : 0 < length (decimal n) = decimal_nonempty n fits in
    let few : length (decimal n) ≤ 10 = length-decimal-le 10 n (omega arith) power fits in
    let a : nat_lt 0 (length (decimal n)) ≡ true = grind (arith, nat_tests) in
    let b : nat_le (length (decimal n)) 10 ≡ true = grind (arith, nat_tests) in
    three (nat_lt 0 (length (decimal n))) (nat_le (length (decimal n)) 10) (list_all is_ascii_digit (decimal n)) a b (decimal_digits n fits)

chosen : (b : Bool) (v n : ℕ) (allowed : ℕ → Bool) → b ≡ true → v ≡ n → allowed n ≡ true → (if b && allowed v then Ok v else Err Range) ≡ Ok n
chosen b v n allowed eb ev ea = rw (eb, ev, ea) refl

number_said : (allowed : ℕ → Bool) (n : ℕ) → n < 10000000000 → allowed n ≡ true → number_of allowed (decimal n) ≡ Ok n
number_said allowed n small ok =
    let fits : n < 2 ^ 64 = omega arith in
    chosen (is_number (decimal n)) (digits_value 10 (decimal n)) n allowed (decimal_number n small) (decimal_is_IsNumeral n fits).1 ok

suite_small : (s : Suite) → key_bits s < 10000000000
suite_small GcmAes128 = omega arith
suite_small GcmAes256 = omega arith

suite_named : (s : Suite) → suite_of (key_bits s) ≡ Some s
suite_named GcmAes128 = refl
suite_named GcmAes256 = refl

suite_chosen : (b : Bool) (v : ℕ) (s : Suite) → b ≡ true → v ≡ key_bits s → (if b then ok_or (suite_of v) Range else Err Range) ≡ Ok s
suite_chosen b v s eb ev = rw (eb, ev, suite_named s) refl

suite_said : (s : Suite) → suite_in (decimal (key_bits s)) ≡ Ok s
suite_said s =
    let small = suite_small s in
    let fits : key_bits s < 2 ^ 64 = omega (arith, small) in
    suite_chosen (is_number (decimal (key_bits s))) (digits_value 10 (decimal (key_bits s))) s (decimal_number (key_bits s) small) (decimal_is_IsNumeral (key_bits s) fits).1

within : (low high n : ℕ) → low ≤ n → n ≤ high → is_within low high n ≡ true
within low high n l h = grind (arith, nat_tests)

either : (this that n : ℕ) → (n ≡ this) ⊎ (n ≡ that) → is_either this that n ≡ true
either this that n (inl e) = grind (arith, nat_tests)
either this that n (inr e) = grind (arith, nat_tests)

hex_word : (xs : List ℕ) → 0 < length xs → IsBytes xs → IsWord (encode_lower xs)
hex_word xs some bytes = record {
  some = omega (arith, length-encode_with lower_digits xs);
  whole = whole_by is_hex_digit (encode_lower xs) refl refl (decode_of-ok (encode_lower xs) xs (decode_of-encode_lower xs bytes)).1;
}

key_some : (xs : List ℕ) → (length xs ≡ 16) ⊎ (length xs ≡ 32) → 0 < length xs
key_some xs (inl e) = omega (arith, e)
key_some xs (inr e) = omega (arith, e)

octets_said : (allowed : ℕ → Bool) (xs : List ℕ) → IsBytes xs → allowed (length xs) ≡ true → octets_of allowed (encode_lower xs) ≡ Ok xs
octets_said allowed xs bytes ok = rw (decode_of-encode_lower xs bytes, ok) refl

array_said : (count : ℕ) (xs : List ℕ) → length xs ≡ count → IsBytes xs → exactly_of count (encode_lower xs) ≡ Ok xs
array_said count xs size bytes = rw (decode_sized-encode_lower xs count size bytes) refl

pub spelled_word : (k : Kind) (x : Said k) → IsPlain k → IsFit k x → IsWord (spelled k x)
spelled_word name x plain fit = name_word x fit
spelled_word (number low high) x plain fit = number_word x (omega (arith, plain, fit.1))
spelled_word suite x plain fit = number_word (key_bits x) (suite_small x)
spelled_word (exactly count) x plain fit = hex_word x (omega (arith, plain, fit.0)) fit.1
spelled_word (octets low high) x plain fit = hex_word x (omega (arith, plain, fit.0)) fit.2
spelled_word secret x plain fit = hex_word x (key_some x fit.0) fit.1

pub said_spelled : (k : Kind) (x : Said k) → IsPlain k → IsFit k x → said k (spelled k x) ≡ Ok x
said_spelled name x plain fit = rw fit refl
said_spelled (number low high) x plain fit =
    number_said (is_within low high) x (omega (arith, plain, fit.1)) (within low high x fit.0 fit.1)
said_spelled suite x plain fit = suite_said x
said_spelled (exactly count) x plain fit = array_said count x fit.0 fit.1
said_spelled (octets low high) x plain fit = octets_said (is_within low high) x fit.2 (within low high (length x) fit.0 fit.1)
said_spelled secret x plain fit = octets_said (is_either 16 32) x fit.1 (either 16 32 (length x) fit.0)
