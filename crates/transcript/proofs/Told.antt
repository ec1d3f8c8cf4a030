-- The words that are spelled of a value say the value.
use Rattle.std.proofs.Common.{◌≡◌, ℕ, zero, suc, ◌<◌, ◌^◌, Bool, true, false, List, [], ◌∷◌, length, get_or, refl, ap, ◌∙◌, arith}
use Rattle.std.specs.Option.{option_map}
use Rattle.std.specs.Prelude.{◌≢◌, ◌==◌, nat_lt, Option, Some, None, decimal, codes}
use Rattle.std.proofs.lemmas.Bool.Decides.{nat_tests}
use Rattle.std.proofs.lemmas.Fmt.{decimal_is_IsNumeral}
use Rattle.std.proofs.lemmas.Slice.Eq.{bytes_eq-Decides}
use Rattle.hex.specs.Hex.{encode_lower, lower_digits, IsBytes}
use Rattle.hex.proofs.HexLemmas.{decode_of-encode_lower, length-encode_with}
use Rattle.aes_block.specs.declared.secret.Secret.{Secret}
use Rattle.aes_block.specs.declared.secret.Secret.TheVariants.{S128, S256}
use Rattle.lan_base.specs.declared.address.Mi.{Mi}
use Rattle.lan_base.specs.declared.association_number.AssociationNumber.{AssociationNumber}
use Rattle.lan_base.specs.AssociationNumbers as Associations
use Rattle.lan_base.proofs.Public.{number_of-few, numbered-number_of}
use Rattle.trace_text.specs.Words.{is_word}
use Rattle.transcript.specs.Words.{spelled, Fits, server_word, secret_word}
use Rattle.lan_base.specs.Differing.{DiffersFrom, AllDiffer}
use Rattle.transcript.specs.inside.Reading.{place_of, station_of, whole_of, number_of, an_of, octets_of, array_of, member_of, server_of, secret_of}
use Rattle.transcript.proofs.Tests.{one-more}
use Rattle.transcript.proofs.Pairs.{pairs_written}

pub same_word : (word : List ℕ) → is_word word word ≡ true
same_word word = (bytes_eq-Decides word word).1 refl

never : (word other : List ℕ) (b : Bool) → is_word word other ≡ b → word ≢ other → b ≡ false
never word other true e differ = absurd (differ ((bytes_eq-Decides word other).0 e))
never word other false e differ = refl

pub other_word : (word other : List ℕ) → word ≢ other → is_word word other ≡ false
other_word word other differ = never word other (is_word word other) refl differ

differs-there : (name : List ℕ) (names : List (List ℕ)) (s : ℕ) → DiffersFrom name names
    → s < length names → name ≢ get_or names s []
differs-there name [] s d l = absurd (omega (arith, l))
differs-there name (other ∷ names) zero d l = d.0
differs-there name (other ∷ names) (suc s) d l = differs-there name names s d.1 (omega (arith, l))

place_found : (names : List (List ℕ)) (s : ℕ) → AllDiffer names → s < length names → place_of names (get_or names s []) ≡ s
place_found [] s d l = absurd (omega (arith, l))
place_found (name ∷ names) zero d l = rw (same_word name) refl
place_found (name ∷ names) (suc s) d l =
    let inside : s < length names = omega (arith, l) in
    rw (other_word name (get_or names s []) (differs-there name names s d.0 inside))
    (one-more (place_of names (get_or names s [])) ∙ ap (λ n. suc n) (place_found names s d.1 inside))

pub station_said : (names : List (List ℕ)) (s : ℕ) → AllDiffer names → (s < length names) × (s < 256) → station_of names (get_or names s []) ≡ Some s
station_said names s d fit =
    let named : nat_lt s (length names) ≡ true = grind (arith, nat_tests, fit.0) in
    let small : nat_lt s 256 ≡ true = grind (arith, nat_tests, fit.1) in
    rw (place_found names s d fit.0, named, small) refl

pub whole_said : (n : ℕ) → n < 2 ^ 64 → whole_of (decimal n) ≡ Some n
whole_said n small =
    let test : nat_lt n (2 ^ 64) ≡ true = grind (arith, nat_tests, small) in
    rw ((decimal_is_IsNumeral n small).1, same_word (decimal n), test) refl

pub number_said : (bits n : ℕ) → n < 2 ^ 64 → n < 2 ^ bits → number_of bits (decimal n) ≡ Some n
number_said bits n small fit =
    let test : nat_lt n (2 ^ bits) ≡ true = grind (arith, nat_tests, fit) in
    rw (whole_said n small, test) refl

pub an_said : (an : AssociationNumber) → an_of (decimal (Associations.number_of an)) ≡ Some an
an_said an =
    let few = number_of-few an in
    rw (number_said 2 (Associations.number_of an) (omega (arith, few)) (omega (arith, few)))
    (numbered-number_of an)

pub octets_said : (xs : List ℕ) → IsBytes xs → octets_of (encode_lower xs) ≡ Some xs
octets_said xs bytes = rw (pairs_written xs bytes, decode_of-encode_lower xs bytes) refl

pub array_said : (count : ℕ) (xs : List ℕ) → (length xs ≡ count) × IsBytes xs → array_of count (encode_lower xs) ≡ Some xs
array_said count xs fit =
    let test : (length xs == count) ≡ true = grind (arith, nat_tests, fit.0) in
    rw (octets_said xs fit.1, test) refl

pub member_said : (mi : Mi) → (length mi.0 ≡ 12) × IsBytes mi.0 → member_of (encode_lower mi.0) ≡ Some mi
member_said mi fit = ap (option_map (λ xs. record { 0 = xs })) (array_said 12 mi.0 fit)

long : (xs : List ℕ) → length xs ≡ 12 → encode_lower xs ≢ codes "none"
long xs size e =
    let digits : length (encode_lower xs) ≡ 4 = ap length e in
    omega (arith, digits, length-encode_with lower_digits xs, size)

pub server_said : (names : List (List ℕ)) (mi : Option Mi) → Fits names (server_word mi) → server_of (spelled names (server_word mi)) ≡ Some mi
server_said names None fit = refl
server_said names (Some mi) fit = rw (other_word (encode_lower mi.0) (codes "none") (long mi.0 fit.0), member_said mi fit) refl

pub secret_said : (names : List (List ℕ)) (sak : Secret) → Fits names (secret_word sak) → secret_of (spelled names (secret_word sak)) ≡ Some sak
secret_said names (S128 xs) fit = rw (array_said 16 xs fit) refl
secret_said names (S256 xs) fit =
    let none : (length xs == 16) ≡ false = grind (arith, nat_tests, fit.0) in
    let other : array_of 16 (encode_lower xs) ≡ None = rw (octets_said xs fit.1, none) refl in
    rw (other, array_said 32 xs fit) refl
