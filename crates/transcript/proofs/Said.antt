-- What a word that is read back says is spelled as that word.
use Rattle.std.proofs.Common.{◌≡◌, ℕ, suc, ◌<◌, ◌^◌, Bool, true, false, List, [], ◌∷◌, length, get_or, refl, sym, ap, ◌∙◌, inl, inr, arith, subst}
use Rattle.std.specs.Prelude.{◌⊎◌, ◌==◌, ◌&&◌, nat_lt, Option, Some, None, Result, Ok, Err, decimal, codes, if◌then◌else◌}
use Rattle.std.specs.Option.{option_map}
use Rattle.std.specs.Result.{result_ok}
use Rattle.std.specs.Str.Parse.{digits_value}
use Rattle.std.proofs.lemmas.Bool.Decides.{nat_tests}
use Rattle.std.proofs.lemmas.Slice.Eq.{bytes_eq-Decides}
use Rattle.hex.specs.declared.error.FromHexError.{FromHexError}
use Rattle.hex.specs.Hex.{encode_lower, decode_of, IsBytes}
use Rattle.aes_block.specs.declared.secret.Secret.{Secret}
use Rattle.aes_block.specs.declared.secret.Secret.TheVariants.{S128, S256}
use Rattle.lan_base.specs.declared.address.Mi.{Mi}
use Rattle.lan_base.specs.declared.association_number.AssociationNumber.{AssociationNumber}
use Rattle.lan_base.specs.declared.association_number.AssociationNumber.TheVariants.{An0, An1, An2, An3}
use Rattle.lan_base.specs.AssociationNumbers.{numbered}
use Rattle.lan_base.specs.AssociationNumbers as Associations
use Rattle.trace_text.specs.Words.{is_word}
use Rattle.transcript.specs.Words.{Word, station, number, array, octets, spelled, Fits, an_word, server_word, secret_word}
use Rattle.transcript.specs.inside.Reading.{kept_if, and_then, place_of, position_of, station_of, whole_of, number_of, an_of, is_pairs, octets_of, array_of, member_of, server_of, secret_from, secret_of, said_by}
use Rattle.transcript.proofs.Tests.{both, same-number, below, one-more}
use Rattle.transcript.proofs.Pairs.{written_back}

abbrev some_or : {A : Type 0} → A → Option A → A
some_or d (Some x) = x
some_or d None = d

abbrev there : {A : Type 0} → A → Option A
there x = Some x

pub same_some : {A : Type 0} (x y : A) → there x ≡ there y → x ≡ y
same_some x y e = ap (some_or x) e

pub kept : {A : Type 0} (b : Bool) (x y : A) → kept_if b x ≡ Some y → (b ≡ true) × (x ≡ y)
kept true x y e = (refl, same_some x y e)
kept false x y e = absurd cc

pub steps : {A B : Type 0} (o : Option A) (f : A → Option B) (y : B) → and_then o f ≡ Some y → (x : A) × (o ≡ Some x) × (f x ≡ Some y)
steps (Some x) f y e = (x, refl, e)
steps None f y e = absurd cc

pub mapped : {A B : Type 0} (f : A → B) (o : Option A) (y : B) → option_map f o ≡ Some y → (x : A) × (o ≡ Some x) × (f x ≡ y)
mapped f (Some x) y e = (x, refl, same_some (f x) y e)
mapped f None y e = absurd cc

pub chosen : {A : Type 0} (b : Bool) (x y : Option A) (v : A) → (if b then x else y) ≡ Some v → ((b ≡ true) × (x ≡ Some v)) ⊎ ((b ≡ false) × (y ≡ Some v))
chosen true x y v e = inl (refl, e)
chosen false x y v e = inr (refl, e)

pub the_word : (word other : List ℕ) → is_word word other ≡ true → word ≡ other
the_word word other e = (bytes_eq-Decides word other).0 e

-- a word says this: it is spelled so, and fits
pub record Tells (names : List (List ℕ)) (word : List ℕ) (w : Word) : Type 0 where
  pub spells : spelled names w ≡ word
  pub fits : Fits names w

place_step : (word name : List ℕ) (names : List (List ℕ)) → (nat_lt (place_of names word) (length names) ≡ true → get_or names (place_of names word) [] ≡ word)
    → (b : Bool) → is_word name word ≡ b → nat_lt (place_of (name ∷ names) word) (length (name ∷ names)) ≡ true
    → get_or (name ∷ names) (place_of (name ∷ names) word) [] ≡ word
place_step word name names ih true same within =
    let here : place_of (name ∷ names) word ≡ 0 = rw same refl in
    rw here (the_word name word same)
place_step word name names ih false other within =
    let later : place_of (name ∷ names) word ≡ suc (place_of names word) = rw other (one-more (place_of names word)) in
    let inside : nat_lt (place_of names word) (length names) ≡ true = grind (arith, nat_tests, later) in
    rw later (ih inside)

place_is : (word : List ℕ) (names : List (List ℕ)) → nat_lt (place_of names word) (length names) ≡ true → get_or names (place_of names word) [] ≡ word
place_is word [] within = absurd (grind (arith, nat_tests))
place_is word (name ∷ names) within = place_step word name names (place_is word names) (is_word name word) refl within

-- the place at which a name was found
pub as_kept : (b : Bool) (p : ℕ) → (if b then Some p else None) ≡ kept_if b p
as_kept true p = refl
as_kept false p = refl

pub station_tells : (names : List (List ℕ)) (word : List ℕ) (s : ℕ) → station_of names word ≡ Some s → Tells names word (station s)
station_tells names word s e =
    let o = steps (position_of names word) (λ p. kept_if (nat_lt p 256) p) s e in
    let q = kept (nat_lt (place_of names word) (length names)) (place_of names word) o.0 o.1 in
    let r = kept (nat_lt o.0 256) o.0 s o.2 in
    let low : o.0 < 256 = below o.0 256 r.0 in
    subst (λ (n : ℕ). Tells names word (station n)) (q.1 ∙ r.1)
    (record {
      spells = place_is word names q.0;
      fits = (below (place_of names word) (length names) q.0, omega (arith, q.1, low));
    })

pub number_tells : (names : List (List ℕ)) (bits : ℕ) (word : List ℕ) (n : ℕ) → number_of bits word ≡ Some n → Tells names word (number bits n)
number_tells names bits word n e =
    let p = steps (whole_of word) (λ m. kept_if (nat_lt m (2 ^ bits)) m) n e in
    let q = kept (is_word word (decimal (digits_value 10 word)) && nat_lt (digits_value 10 word) (2 ^ 64)) (digits_value 10 word) p.0 p.1 in
    let r = kept (nat_lt p.0 (2 ^ bits)) p.0 n p.2 in
    let same : digits_value 10 word ≡ n = q.1 ∙ r.1 in
    let w = the_word word (decimal (digits_value 10 word)) (both (is_word word (decimal (digits_value 10 word))) (nat_lt (digits_value 10 word) (2 ^ 64)) q.0).0 in
    record {
      spells = ap decimal (sym same) ∙ sym w;
      fits = subst (λ (m : ℕ). m < 2 ^ bits) r.1 (below p.0 (2 ^ bits) r.0);
    }

a_number : (n : ℕ) (an : AssociationNumber) → numbered n ≡ Some an → n ≡ Associations.number_of an
a_number n an e =
    elim (chosen (n == 0) (Some An0) (if n == 1 then Some An1 else if n == 2 then Some An2 else if n == 3 then Some An3 else None) an e) [
      | inl h ↦ same-number n 0 h.0 ∙ ap Associations.number_of (same_some An0 an h.1)
      | inr o ↦ elim (chosen (n == 1) (Some An1) (if n == 2 then Some An2 else if n == 3 then Some An3 else None) an o.1) [
        | inl h ↦ same-number n 1 h.0 ∙ ap Associations.number_of (same_some An1 an h.1)
        | inr o ↦ elim (chosen (n == 2) (Some An2) (if n == 3 then Some An3 else None) an o.1) [
          | inl h ↦ same-number n 2 h.0 ∙ ap Associations.number_of (same_some An2 an h.1)
          | inr o ↦ elim (chosen (n == 3) (Some An3) None an o.1) [
            | inl h ↦ same-number n 3 h.0 ∙ ap Associations.number_of (same_some An3 an h.1)
            | inr o ↦ absurd (cc o.1)
          ]
        ]
      ]
    ]

pub an_tells : (names : List (List ℕ)) (word : List ℕ) (an : AssociationNumber) → an_of word ≡ Some an → Tells names word (an_word an)
an_tells names word an e =
    let p = steps (number_of 2 word) numbered an e in
    subst (λ n. Tells names word (number 2 n)) (a_number p.0 an p.2) (number_tells names 2 word p.0 p.1)

read_back : (word xs : List ℕ) (r : Result (List ℕ) FromHexError) → decode_of word ≡ r → is_pairs word ≡ true → result_ok r ≡ Some xs
    → (encode_lower xs ≡ word) × IsBytes xs
read_back word xs (Ok ys) d pairs e =
    let same : ys ≡ xs = same_some ys xs e in
    written_back word xs pairs (d ∙ ap (λ zs. Ok zs) same)
read_back word xs (Err fault) d pairs e = absurd cc

octets_back : (word xs : List ℕ) → octets_of word ≡ Some xs → (encode_lower xs ≡ word) × IsBytes xs
octets_back word xs e =
    elim (chosen (is_pairs word) (result_ok (decode_of word)) None xs e) [
      | inl p ↦ read_back word xs (decode_of word) refl p.0 p.1
      | inr p ↦ absurd (cc p.1)
    ]

pub octets_tells : (names : List (List ℕ)) (word xs : List ℕ) → octets_of word ≡ Some xs → Tells names word (octets xs)
octets_tells names word xs e =
    let p = octets_back word xs e in
    record { spells = p.0; fits = p.1 }

pub array_tells : (names : List (List ℕ)) (count : ℕ) (word xs : List ℕ) → array_of count word ≡ Some xs → Tells names word (array count xs)
array_tells names count word xs e =
    let p = steps (octets_of word) (λ ys. kept_if (length ys == count) ys) xs e in
    let q = kept (length p.0 == count) p.0 xs p.2 in
    let o = octets_back word xs (p.1 ∙ ap (λ ys. Some ys) q.1) in
    let size : length xs ≡ count = ap length (sym q.1) ∙ same-number (length p.0) count q.0 in
    record { spells = o.0; fits = (size, o.1) }

pub member_tells : (names : List (List ℕ)) (word : List ℕ) (mi : Mi) → member_of word ≡ Some mi → Tells names word (array 12 mi.0)
member_tells names word mi e =
    let p = mapped (λ xs. record { 0 = xs }) (array_of 12 word) mi e in
    array_tells names 12 word mi.0 (p.1 ∙ ap (λ (m : Mi). Some m.0) p.2)

pub server_tells : (names : List (List ℕ)) (word : List ℕ) (mi : Option Mi) → server_of word ≡ Some mi → Tells names word (server_word mi)
server_tells names word mi e =
    elim (chosen (is_word word (codes "none")) (Some None) (option_map (λ m. Some m) (member_of word)) mi e) [
      | inl none ↦
          subst (λ (m : Option Mi). Tells names word (server_word m)) (same_some None mi none.1)
          (record { spells = sym (the_word word (codes "none") none.0); fits = refl })
      | inr some ↦
          let p = mapped (λ m. Some m) (member_of word) mi some.1 in
          let t = member_tells names word p.0 p.1 in
          subst (λ (m : Option Mi). Tells names word (server_word m)) p.2 (record { spells = t.spells; fits = t.fits })
    ]

secret_by : (names : List (List ℕ)) (word : List ℕ) (sak : Secret) (a b : Option (List ℕ)) → array_of 16 word ≡ a → array_of 32 word ≡ b
    → secret_from a b ≡ Some sak → Tells names word (secret_word sak)
secret_by names word sak (Some xs) b ea eb e =
    let t = array_tells names 16 word xs ea in
    subst (λ (s : Secret). Tells names word (secret_word s)) (same_some (S128 xs) sak e) (record { spells = t.spells; fits = t.fits })
secret_by names word sak None (Some xs) ea eb e =
    let t = array_tells names 32 word xs eb in
    subst (λ (s : Secret). Tells names word (secret_word s)) (same_some (S256 xs) sak e) (record { spells = t.spells; fits = t.fits })
secret_by names word sak None None ea eb e = absurd cc

pub secret_tells : (names : List (List ℕ)) (word : List ℕ) (sak : Secret) → secret_of word ≡ Some sak → Tells names word (secret_word sak)
secret_tells names word sak e = secret_by names word sak (array_of 16 word) (array_of 32 word) refl refl e

-- each row of a table has this
abbrev pub Each : {A : Type 0} → (List ℕ → A → Type 0) → List (List ℕ × A) → Type 0
Each P [] = Unit {0}
Each P (row ∷ rows) = P row.0 row.1 × Each P rows

pub said_each : {A : Type 0} (P : List ℕ → A → Type 0) (rows : List (List ℕ × A)) (word : List ℕ) (x : A) → Each P rows → said_by rows word ≡ Some x → P word x
said_each P [] word x each e = absurd cc
said_each P (row ∷ rows) word x each e =
    elim (chosen (is_word word row.0) (Some row.1) (said_by rows word) x e) [
      | inl here ↦
          let w = the_word word row.0 here.0 in
          subst (λ y. P word y) (same_some row.1 x here.1) (subst (λ v. P v row.1) (sym w) each.0)
      | inr later ↦ said_each P rows word x each.1 later.1
    ]
