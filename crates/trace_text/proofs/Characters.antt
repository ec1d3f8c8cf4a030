-- The characters that names and numbers are written with.
use Rattle.std.proofs.Common.{◌≡◌, ℕ, ◌+◌, ◌<◌, ◌≤◌, ◌^◌, ◌%◌, true, List, [], ◌∷◌, ◌++◌, length, refl, ◌∙◌, arith}
use Rattle.std.specs.Prelude.{◌&&◌, nat_le, decimal}
use Rattle.std.specs.List.{AllPass, list_all}
use Rattle.std.specs.Char.{is_ascii_digit, is_ascii_alphabetic, is_ascii_alphanumeric}
use Rattle.std.proofs.lemmas.Bool.Decides.{nat_tests}
use Rattle.std.proofs.lemmas.Fmt.{decimal_by_steps}
use Rattle.std.proofs.lemmas.List.Folds.{list_all-append}
use Rattle.std.proofs.lemmas.List.Sums.{AllPass-from_list_all}
use Rattle.lan_base.specs.Name.{is_name}
use Rattle.trace_text.proofs.Digits.{both}

letter : (octet : ℕ) → is_ascii_alphabetic octet ≡ true → is_ascii_alphanumeric octet ≡ true
letter octet e = grind (arith, nat_tests)

pub name_characters : (n : List ℕ) → is_name n ≡ true → AllPass is_ascii_alphanumeric n
name_characters [] e = absurd cc
name_characters (first ∷ others) e =
    let p = both (is_ascii_alphabetic first && list_all is_ascii_alphanumeric others) (nat_le (length others) 15) e in
    let q = both (is_ascii_alphabetic first) (list_all is_ascii_alphanumeric others) p.0 in
    AllPass-from_list_all is_ascii_alphanumeric (first ∷ others) (rw (letter first q.0, q.1) refl)

digit : (n : ℕ) → n < 10 → is_ascii_digit (48 + n) ≡ true
digit n small = grind (arith, nat_tests)

one_digit : (n : ℕ) → n < 10 → list_all is_ascii_digit ((48 + n) ∷ []) ≡ true
one_digit n small = rw (digit n small) refl

more_digits : (n : ℕ) (ds : List ℕ) → 10 ≤ n → list_all is_ascii_digit ds ≡ true → list_all is_ascii_digit (ds ++ ((48 + n % 10) ∷ [])) ≡ true
more_digits n ds large all =
    list_all-append is_ascii_digit ds ((48 + n % 10) ∷ []) ∙ rw (all, one_digit (n % 10) (omega arith)) refl

pub decimal_digits : (n : ℕ) → n < 2 ^ 64 → list_all is_ascii_digit (decimal n) ≡ true
decimal_digits n small = decimal_by_steps (λ m ds. list_all is_ascii_digit ds ≡ true) one_digit more_digits n small
