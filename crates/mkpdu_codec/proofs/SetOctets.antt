-- A set is read from the octets that are that set, and from no others.
use Rattle.std.specs.Prelude.{All}
use Rattle.std.proofs.Common.{◌≡◌, ℕ, suc, ◌+◌, ◌*◌, ◌/◌, ◌%◌, ◌<◌, ◌≤◌, inl, inr, true, false, List, [], ◌∷◌, ◌++◌, length, get_or, take, drop, Some, None, refl, sym, ap, subst, ◌∙◌, arith, length-append, length-drop, length-take, append_assoc}
use Rattle.std.proofs.lemmas.Bool.{leb-true, leb-false, cases_lt}
use Rattle.std.proofs.lemmas.List.{length-replicate, take-append-drop, take-take, take_at, drop_at, drop-take, drop-drop, get_or-drop, get_or_past}
use Rattle.mkpdu_codec.specs.Sets.{missing, header, set, basic_body}
use Rattle.mkpdu_codec.specs.Frames.{Set, IsSet}
use Rattle.mkpdu_codec.specs.Fields.{set_at}
use Rattle.mkpdu_codec.specs.Refusals.{front_kind, front_length, front_size, is_whole}
use Rattle.mkpdu_codec.proofs.Taking.{octets_at-long, octets_at-short}

pub length-set : (kind second flags : ℕ) (body : List ℕ) → length (set kind second flags body) ≡ 4 + length body + missing (length body)
length-set kind second flags body = simp (length-append, length-replicate) (omega arith)

pub length-basic_body : (sci mi : List ℕ) (mn : ℕ) (ckn : List ℕ) → length sci ≡ 8 → length mi ≡ 12 → length (basic_body sci mi mn ckn) ≡ 28 + length ckn
length-basic_body sci mi mn ckn s m = simp length-append (omega arith)

-- the length that two octets of a header state
abbrev pub stated : ℕ → ℕ → ℕ
stated c d = c % 16 * 256 + d

-- the set that stands in front
abbrev pub front_set : List ℕ → Set
front_set octets = record { kind = front_kind octets; second = get_or octets 1 0; flags = get_or octets 2 0 / 16; body = take (front_length octets) (drop 4 octets) }

set_at-cons : (a b c d : ℕ) (tail : List ℕ) → stated c d + missing (stated c d) ≤ length tail
    → set_at (a ∷ b ∷ c ∷ d ∷ tail) ≡ Some (record { kind = a; second = b; flags = c / 16; body = take (stated c d) tail }, drop (stated c d + missing (stated c d)) tail)
unfolding set_at
set_at-cons a b c d tail le =
    rw (octets_at-long 4 (a ∷ b ∷ c ∷ d ∷ tail) (omega arith), octets_at-long (stated c d + missing (stated c d)) tail le, take-take (stated c d) (stated c d + missing (stated c d)) tail (omega arith)) refl

set_at-cons_short : (a b c d : ℕ) (tail : List ℕ) → length tail < stated c d + missing (stated c d) → set_at (a ∷ b ∷ c ∷ d ∷ tail) ≡ None
unfolding set_at
set_at-cons_short a b c d tail lt =
    rw (octets_at-long 4 (a ∷ b ∷ c ∷ d ∷ tail) (omega arith), octets_at-short (stated c d + missing (stated c d)) tail lt) refl

set_at-few : (octets : List ℕ) → length octets < 4 → set_at octets ≡ None
unfolding set_at
set_at-few octets lt = rw (octets_at-short 4 octets lt) refl

behind_header : (a b c d n : ℕ) (tail : List ℕ) → drop (4 + n + missing n) (a ∷ b ∷ c ∷ d ∷ tail) ≡ drop (n + missing n) tail
behind_header a b c d n tail =
    let sum : 4 + n + missing n ≡ 4 + (n + missing n) = omega arith in
    ap (λ (k : ℕ). drop k (a ∷ b ∷ c ∷ d ∷ tail)) sum ∙ sym (drop-drop (n + missing n) 4 (a ∷ b ∷ c ∷ d ∷ tail))

-- a whole set is read
pub set_at-whole : (octets : List ℕ) → is_whole octets ≡ true → set_at octets ≡ Some (front_set octets, drop (front_size octets) octets)
set_at-whole [] w = absurd (let le : front_size [] ≤ 0 = leb-true _ _ w in omega arith)
set_at-whole (a ∷ []) w = absurd (let le : front_size (a ∷ []) ≤ 1 = leb-true _ _ w in omega arith)
set_at-whole (a ∷ b ∷ []) w = absurd (let le : front_size (a ∷ b ∷ []) ≤ 2 = leb-true _ _ w in omega arith)
set_at-whole (a ∷ b ∷ c ∷ []) w = absurd (let le : front_size (a ∷ b ∷ c ∷ []) ≤ 3 = leb-true _ _ w in omega arith)
set_at-whole (a ∷ b ∷ c ∷ d ∷ tail) w =
    let le : front_size (a ∷ b ∷ c ∷ d ∷ tail) ≤ length (a ∷ b ∷ c ∷ d ∷ tail) = leb-true _ _ w in
    set_at-cons a b c d tail (omega (arith, le)) ∙ rw (behind_header a b c d (stated c d) tail) refl

-- a set that is not whole isn't read
pub set_at-not : (octets : List ℕ) → is_whole octets ≡ false → set_at octets ≡ None
set_at-not [] w = set_at-few [] (omega arith)
set_at-not (a ∷ []) w = set_at-few (a ∷ []) (omega arith)
set_at-not (a ∷ b ∷ []) w = set_at-few (a ∷ b ∷ []) (omega arith)
set_at-not (a ∷ b ∷ c ∷ []) w = set_at-few (a ∷ b ∷ c ∷ []) (omega arith)
set_at-not (a ∷ b ∷ c ∷ d ∷ tail) w =
    let lt : length (a ∷ b ∷ c ∷ d ∷ tail) < front_size (a ∷ b ∷ c ∷ d ∷ tail) = leb-false _ _ w in
    set_at-cons_short a b c d tail (omega (arith, lt))

-- how long its body is
pub length-front_set : (octets : List ℕ) → is_whole octets ≡ true → length (take (front_length octets) (drop 4 octets)) ≡ front_length octets
length-front_set octets w =
    let le : front_size octets ≤ length octets = leb-true _ _ w in
    lengths (front_length octets) le where
      lengths : (n : ℕ) → 4 + n + missing n ≤ length octets → length (take n (drop 4 octets)) ≡ n
      lengths n le = omega (arith, le, length-take n (drop 4 octets), length-drop 4 octets)

-- ---- the grammar

abbrev pub IsBytes : List ℕ → Type 0
IsBytes octets = (i : ℕ) → get_or octets i 0 < 256

pub IsBytes-all : (octets : List ℕ) → All (λ o. o < 256) octets → IsBytes octets
IsBytes-all octets all i =
    elim (cases_lt i (length octets)) [
      | inl lt ↦ all i 0 lt
      | inr le ↦ rw (get_or_past octets i 0 le) (omega arith)
    ]

pub IsBytes-drop : (n : ℕ) (octets : List ℕ) → IsBytes octets → IsBytes (drop n octets)
IsBytes-drop n octets h i = rw get_or-drop (h (n + i))

header_says : (f n : ℕ) → f < 16 → n < 4096 → stated (f * 16 + n / 256) (n % 256) ≡ n
header_says f n fits short = omega arith

flags_say : (f n : ℕ) → f < 16 → n < 4096 → (f * 16 + n / 256) / 16 ≡ f
flags_say f n fits short = omega arith

set_at-stated : (a b c d n : ℕ) (tail : List ℕ) → stated c d ≡ n → n + missing n ≤ length tail
    → set_at (a ∷ b ∷ c ∷ d ∷ tail) ≡ Some (record { kind = a; second = b; flags = c / 16; body = take n tail }, drop (n + missing n) tail)
set_at-stated a b c d n tail says le =
    subst (λ (m : ℕ). m + missing m ≤ length tail → set_at (a ∷ b ∷ c ∷ d ∷ tail) ≡ Some (record { kind = a; second = b; flags = c / 16; body = take m tail }, drop (m + missing m) tail)) says (set_at-cons a b c d tail) le

-- a set is read from its octets
pub set_at-is : (front rest : List ℕ) (s : Set) → IsSet front s → set_at (front ++ rest) ≡ Some (s, rest)
set_at-is front rest s is =
    let n : ℕ = length s.body in
    let regrouped : front ++ rest ≡ header s.kind s.second s.flags n ++ ((s.body ++ is.padding) ++ rest) = ap (λ (x : List ℕ). x ++ rest) is.whole ∙ append_assoc (header s.kind s.second s.flags n) (s.body ++ is.padding) rest in
    let says : stated (s.flags * 16 + n / 256) (n % 256) ≡ n = header_says s.flags n is.flags is.short in
    let both : length (s.body ++ is.padding) ≡ n + missing n = omega (arith, length-append s.body is.padding, is.padded) in
    let fits : n + missing n ≤ length ((s.body ++ is.padding) ++ rest) = omega (arith, both, length-append (s.body ++ is.padding) rest) in
    let body : take n ((s.body ++ is.padding) ++ rest) ≡ s.body = ap (take n) (append_assoc s.body is.padding rest) ∙ take_at s.body (is.padding ++ rest) n refl in
    let behind : drop (n + missing n) ((s.body ++ is.padding) ++ rest) ≡ rest = drop_at (s.body ++ is.padding) rest (n + missing n) both in
    let flags : (s.flags * 16 + n / 256) / 16 ≡ s.flags = flags_say s.flags n is.flags is.short in
    ap set_at regrouped ∙ set_at-stated s.kind s.second (s.flags * 16 + n / 256) (n % 256) n ((s.body ++ is.padding) ++ rest) says fits
    ∙ rw (body, behind, flags) refl

is_set-cons : (a b c d n : ℕ) (tail : List ℕ) → stated c d ≡ n → c < 256 → d < 256 → n + missing n ≤ length tail
    → IsSet (a ∷ b ∷ c ∷ d ∷ take (n + missing n) tail) (record { kind = a; second = b; flags = c / 16; body = take n tail })
is_set-cons a b c d n tail says fits less le =
    let len : length (take n tail) ≡ n = omega (arith, length-take n tail) in
    let third : c / 16 * 16 + n / 256 ≡ c = omega (arith, says, fits, less) in
    let fourth : n % 256 ≡ d = omega (arith, says, fits, less) in
    let pieces : take n tail ++ take (missing n) (drop n tail) ≡ take (n + missing n) tail =
    rw (← take-take n (n + missing n) tail (omega arith), ← drop-take n (missing n) tail) (take-append-drop n (take (n + missing n) tail)) in
    record {
      padding = take (missing n) (drop n tail);
      whole = rw (len, third, fourth, pieces) refl;
      flags = omega arith;
      short = rw len (omega (arith, says));
      padded = rw len (omega (arith, length-take (missing n) (drop n tail), length-drop n tail));
    }

-- what is read is a set
pub set_at-is_set : (octets : List ℕ) → IsBytes octets → is_whole octets ≡ true → IsSet (take (front_size octets) octets) (front_set octets)
set_at-is_set [] bytes w = absurd (let le : front_size [] ≤ 0 = leb-true _ _ w in omega arith)
set_at-is_set (a ∷ []) bytes w = absurd (let le : front_size (a ∷ []) ≤ 1 = leb-true _ _ w in omega arith)
set_at-is_set (a ∷ b ∷ []) bytes w = absurd (let le : front_size (a ∷ b ∷ []) ≤ 2 = leb-true _ _ w in omega arith)
set_at-is_set (a ∷ b ∷ c ∷ []) bytes w = absurd (let le : front_size (a ∷ b ∷ c ∷ []) ≤ 3 = leb-true _ _ w in omega arith)
set_at-is_set (a ∷ b ∷ c ∷ d ∷ tail) bytes w =
    let le : front_size (a ∷ b ∷ c ∷ d ∷ tail) ≤ length (a ∷ b ∷ c ∷ d ∷ tail) = leb-true _ _ w in
    let n : ℕ = stated c d in
    let is : IsSet (a ∷ b ∷ c ∷ d ∷ take (n + missing n) tail) (front_set (a ∷ b ∷ c ∷ d ∷ tail)) = is_set-cons a b c d n tail refl (bytes 2) (bytes 3) (omega (arith, le)) in
    subst (λ (x : List ℕ). IsSet x (front_set (a ∷ b ∷ c ∷ d ∷ tail))) (sym (front_at n)) is where
      front_at : (n : ℕ) → take (4 + n + missing n) (a ∷ b ∷ c ∷ d ∷ tail) ≡ a ∷ b ∷ c ∷ d ∷ take (n + missing n) tail
      front_at n =
          let sum : 4 + n + missing n ≡ suc (suc (suc (suc (n + missing n)))) = omega arith in
          ap (λ (k : ℕ). take k (a ∷ b ∷ c ∷ d ∷ tail)) sum
