-- Numbers that words spell.
use Rattle.std.proofs.Common.{◌≡◌, ◌≢◌, ◌∙◌, ℕ, suc, ◌+◌, ◌-◌, ◌*◌, ◌<◌, ◌≤◌, ◌^◌, Bool, true, false, List, [], ◌∷◌, ◌++◌, take, length, get_or, refl, sym, ap, subst, arith}
use Rattle.std.specs.Prelude.{◌==◌, ◌&&◌, nat_le, nat_lt, Some, None, Result, Ok, Err, decimal}
use Rattle.std.specs.Int.{IsInRange}
use Rattle.std.specs.Result.{OkIff, result_ok}
use Rattle.std.specs.Str.{IsUtf8}
use Rattle.std.specs.Str.Parse.{AllDigits, ParsesUnsigned, digits_value}
use Rattle.std.proofs.lemmas.Bool.Decides.{nat_tests}
use Rattle.std.proofs.lemmas.Fmt.{IsAscii-decimal, decimal_digit, decimal_nonempty, first_decimal, digits_decimal, digits_value-decimal, decimal-digits_value}
use Rattle.std.proofs.lemmas.Str.Parse.{IsNumeralModel, numerals_by_value, tells_digits, digit_at, digits_value_short, parse_plain}
use Rattle.std.proofs.lemmas.Str.{IsUtf8-from_ascii, digit_value_digit}
use Rattle.std.proofs.lemmas.Int.Digits.{digits_value_more}
use Rattle.std.proofs.Math.Seq.{take-suc}
use Rattle.std.proofs.lemmas.List.{length-take-le}
use Rattle.trace_text.specs.Words.{is_word}
use Rattle.transcript.specs.inside.Numerals.{is_led}
use Rattle.transcript.specs.inside.Reading.{kept_if, whole_of}
use Rattle.transcript.proofs.Tests.{both}
use Rattle.transcript.proofs.Said.{the_word}
use Rattle.transcript.proofs.Told.{whole_said}

own : IsNumeralModel (AllDigits 10) (digits_value 10)
own = numerals_by_value (AllDigits 10) tells_digits

-- no number is written as the word
unsaid : (word : List ℕ) → ((n : ℕ) → n < 2 ^ 64 → word ≡ decimal n → ⊥) → None ≡ whole_of word
unsaid word none = go (is_word word (decimal (digits_value 10 word)) && nat_lt (digits_value 10 word) (2 ^ 64)) refl
  where
    go : (b : Bool)
        → (is_word word (decimal (digits_value 10 word)) && nat_lt (digits_value 10 word) (2 ^ 64)) ≡ b
        → None ≡ kept_if b (digits_value 10 word)
    go false e = refl
    go true e =
        let p = both (is_word word (decimal (digits_value 10 word))) (nat_lt (digits_value 10 word) (2 ^ 64)) e in
        let small : digits_value 10 word < 2 ^ 64 = grind (arith, nat_tests, p.1) in
        absurd (none (digits_value 10 word) small (the_word word (decimal (digits_value 10 word)) p.0))

-- ---- how the word of a number begins

led_more : (ds : List ℕ) → 0 < length ds → 48 < get_or ds 0 0 → IsInRange 48 57 (get_or ds 0 0)
    → is_led ds ≡ true
led_more [] some more range = absurd (omega (arith, some))
led_more (first ∷ rest) some more range =
    let low : nat_le 49 first ≡ true = grind (arith, nat_tests, more) in
    let high : nat_le first 57 ≡ true = grind (arith, nat_tests, range) in
    rw (low, high) refl

led_written : (n : ℕ) → n < 2 ^ 64 → is_led (decimal n) ≡ true
led_written n small = go (n == 0) refl
  where
    go : (b : Bool) → (n == 0) ≡ b → is_led (decimal n) ≡ true
    go true e =
        let none : n ≡ 0 = grind (arith, nat_tests, e) in
        ap (λ m. is_led (decimal m)) none ∙ ap is_led (decimal_digit 0 (omega arith))
    go false e =
        let some : 0 < n = grind (arith, nat_tests, e) in
        led_more (decimal n) (decimal_nonempty n small) (first_decimal n some small)
        (digit_at (decimal n) 0 (digits_decimal own n small) (decimal_nonempty n small))

pub led_not : (word : List ℕ) → is_led word ≡ false → None ≡ whole_of word
led_not word e =
    unsaid word (λ n small w. absurd (cc (sym (led_written n small) ∙ ap is_led (sym w) ∙ e)))

led_zero : (ds : List ℕ) → is_led ds ≡ true → get_or ds 0 0 ≡ 48 → length ds ≡ 1
led_zero [] led zero = absurd (cc led)
led_zero (first ∷ []) led zero = refl
led_zero (first ∷ next ∷ rest) led zero =
    let is : (length (next ∷ rest) == 0) ≡ true =
    subst (λ (d : ℕ). is_led (d ∷ next ∷ rest) ≡ true) zero led in
    let none : length (next ∷ rest) ≡ 0 = grind (arith, nat_tests, is) in
    absurd (omega (arith, none))

led_plain : (ds : List ℕ) → is_led ds ≡ true → get_or ds 0 0 ≢ 43
led_plain [] led plus = cc led
led_plain (first ∷ rest) led plus = cc (sym (ap (λ (d : ℕ). is_led (d ∷ rest)) plus) ∙ led)

led_some : (ds : List ℕ) → is_led ds ≡ true → 0 < length ds
led_some [] led = absurd (cc led)
led_some (d ∷ ds) led = omega arith

-- ---- what is parsed

pub parsed_so : {E : Type 0} (word text : List ℕ) (r : Result ℕ E) → text ≡ word
    → ParsesUnsigned 64 10 text r → is_led word ≡ true → result_ok r ≡ whole_of word
parsed_so {E} word text r same parses led =
    go r (parse_plain own 64 word r (subst (λ (t : List ℕ). ParsesUnsigned 64 10 t r) same parses) (led_plain word led))
  where
    go : (r : Result ℕ E)
        → OkIff r (AllDigits 10 word × (0 < length word) × (digits_value 10 word < 2 ^ 64)) (digits_value 10 word)
        → result_ok r ≡ whole_of word
    go (Ok x) p =
        ap Some p.1 ∙ sym (whole_said (digits_value 10 word) p.0.2)
        ∙ ap whole_of (decimal-digits_value own word p.0.0 p.0.1 (led_zero word led) p.0.2)
    go (Err e) not =
        unsaid word (λ n small w. not (
          subst (λ (ds : List ℕ). AllDigits 10 ds) (sym w) (digits_decimal own n small),
          subst (λ (ds : List ℕ). 0 < length ds) (sym w) (decimal_nonempty n small),
          subst (λ (ds : List ℕ). digits_value 10 ds < 2 ^ 64) (sym w)
              (subst (λ (m : ℕ). m < 2 ^ 64) (sym (digits_value-decimal own n small)) small),
        ))

pub no_text : (word : List ℕ) → (IsUtf8 word → ⊥) → None ≡ whole_of word
no_text word none =
    unsaid word (λ n small w. none (subst IsUtf8 (sym w) (IsUtf8-from_ascii (decimal n) (IsAscii-decimal n small))))

-- ---- what is summed, digit by digit

digits_push : (ds : List ℕ) (c : ℕ) → AllDigits 10 ds → IsInRange 48 57 c → AllDigits 10 (ds ++ c ∷ [])
digits_push [] c all range = (omega (arith, digit_value_digit c range, range), tt)
digits_push (d ∷ ds) c all range = (all.0, digits_push ds c all.1 range)

one_more : (n : ℕ) → n + 1 ≡ suc n
one_more n = omega arith

-- one digit more
pub summed_more : (word : List ℕ) (i sum : ℕ) → i < length word → IsInRange 48 57 (get_or word i 0) → AllDigits 10 (take i word)
    → sum ≡ digits_value 10 (take i word)
    → AllDigits 10 (take (i + 1) word) × (sum * 10 + (get_or word i 0 - 48) ≡ digits_value 10 (take (i + 1) word))
summed_more word i sum within range all is = (
  subst (λ (ds : List ℕ). AllDigits 10 ds) (sym (ap (λ n. take n word) (one_more i) ∙ take-suc word i 0 within)) (digits_push (take i word) (get_or word i 0) all range),
  omega (arith, digits_value_more 10 word i within, digit_value_digit (get_or word i 0) range, is),
)

most : 10 ^ 18 ≡ 1000000000000000000
most = refl

-- few digits say a number that has room for one more
pub summed_few : (word : List ℕ) (i sum : ℕ) → i < length word → length word ≤ 19 → AllDigits 10 (take i word) → sum ≡ digits_value 10 (take i word)
    → sum < 1000000000000000000
summed_few word i sum within few all is =
    let short : length (take i word) ≤ 18 = omega (arith, within, few, length-take-le i word (omega (arith, within))) in
    omega (arith, digits_value_short own (take i word) 18 all short, most, is)

pub summed_so : (word : List ℕ) → length word ≤ 19 → AllDigits 10 word → is_led word ≡ true → Some (digits_value 10 word) ≡ whole_of word
summed_so word few all led =
    let bound : 10 ^ 19 ≡ 10000000000000000000 = refl in
    let small : digits_value 10 word < 2 ^ 64 = omega (arith, digits_value_short own word 19 all few, bound) in
    sym (whole_said (digits_value 10 word) small)
    ∙ ap whole_of (decimal-digits_value own word all (led_some word led) (led_zero word led) small)

pub summed_not : (word : List ℕ) (i : ℕ) → i < length word → (IsInRange 48 57 (get_or word i 0) → ⊥) → None ≡ whole_of word
summed_not word i within other =
    unsaid word (λ n small w. other (
    digit_at word i (subst (λ (ds : List ℕ). AllDigits 10 ds) (sym w) (digits_decimal own n small)) within))
