-- No word has a space or a line feed in it.
use Rattle.std.proofs.Common.{◌≡◌, ℕ, ◌<◌, ◌^◌, Bool, true, false, List, [], get_or, refl, sym, ap, ◌∙◌, arith}
use Rattle.std.specs.Prelude.{◌==◌, nat_le, decimal}
use Rattle.std.specs.List.{All, AllPass}
use Rattle.std.specs.Char.{is_ascii_digit, is_ascii_alphanumeric, is_ascii_lowercase}
use Rattle.std.proofs.lemmas.List.Elements.{All-weaker, All-get_or}
use Rattle.std.proofs.lemmas.List.Sums.{AllPass-from_list_all}
use Rattle.hex.specs.Hex.{encode_lower, is_hex_digit, IsBytes}
use Rattle.hex.proofs.HexLemmas.{decode_of-ok, decode_of-encode_lower}
use Rattle.lan_base.specs.Name.{is_name, IsName}
use Rattle.trace_text.proofs.Public.{name_characters, decimal_digits}
use Rattle.transcript.proofs.Tests.{same-number, at-most}
use Rattle.transcript.specs.Words.{Word, text, station, number, array, octets, spelled, Fits}

-- an octet stands nowhere in these
abbrev pub Lacks : ℕ → List ℕ → Type 0
Lacks c xs = All (λ octet. (octet == c) ≡ false) xs

differ : (p : ℕ → Bool) (c x : ℕ) (b : Bool) → (x == c) ≡ b → p c ≡ false → p x ≡ true → b ≡ false
differ p c x true e none passes = sym passes ∙ ap p (same-number x c e) ∙ none
differ p c x false e none passes = refl

lacks_by : (p : ℕ → Bool) (c : ℕ) (xs : List ℕ) → p c ≡ false → AllPass p xs → Lacks c xs
lacks_by p c xs none all =
    All-weaker (λ x. p x ≡ true) (λ x. (x == c) ≡ false) (λ x passes. differ p c x (x == c) refl none passes) xs all

name_lacks : (c : ℕ) (n : List ℕ) → is_ascii_alphanumeric c ≡ false → is_name n ≡ true → Lacks c n
name_lacks c n none e = lacks_by is_ascii_alphanumeric c n none (name_characters n e)

hex_lacks : (c : ℕ) (xs : List ℕ) → is_hex_digit c ≡ false → IsBytes xs → Lacks c (encode_lower xs)
hex_lacks c xs none bytes =
    lacks_by is_hex_digit c (encode_lower xs) none (decode_of-ok (encode_lower xs) xs (decode_of-encode_lower xs bytes)).1

-- a word's number is one of a narrow field
abbrev pub is_narrow : Word → Bool
is_narrow (number bits n) = nat_le (2 ^ bits) (2 ^ 64)
is_narrow _ = true

small : (bits n : ℕ) → nat_le (2 ^ bits) (2 ^ 64) ≡ true → n < 2 ^ bits → n < 2 ^ 64
small bits n narrow less = let few = at-most (2 ^ bits) (2 ^ 64) narrow in omega (arith, few, less)

-- space and line feed
pub spelled_lacks : (c : ℕ) (names : List (List ℕ)) (word : Word) → is_ascii_alphanumeric c ≡ false → is_ascii_lowercase c ≡ false
    → is_ascii_digit c ≡ false → is_hex_digit c ≡ false → All IsName names → Fits names word → is_narrow word ≡ true → Lacks c (spelled names word)
spelled_lacks c names (text letters) alphanumeric lower digit hex named fit narrow =
    lacks_by is_ascii_lowercase c letters lower (AllPass-from_list_all is_ascii_lowercase letters fit)
spelled_lacks c names (station s) alphanumeric lower digit hex named fit narrow =
    name_lacks c (get_or names s []) alphanumeric (All-get_or IsName names s [] fit.0 named)
spelled_lacks c names (number bits n) alphanumeric lower digit hex named fit narrow =
    lacks_by is_ascii_digit c (decimal n) digit (AllPass-from_list_all is_ascii_digit (decimal n) (decimal_digits n (small bits n narrow fit)))
spelled_lacks c names (array count xs) alphanumeric lower digit hex named fit narrow = hex_lacks c xs hex fit.1
spelled_lacks c names (octets xs) alphanumeric lower digit hex named fit narrow = hex_lacks c xs hex fit
