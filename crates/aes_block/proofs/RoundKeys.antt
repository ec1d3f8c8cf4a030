-- Round keys as the rounds take them, one by one and all of them.
use Rattle.std.proofs.Common.{◌≡◌, ℕ, zero, suc, ◌+◌, ◌<◌, ◌≤◌, List, [], map, length, replicate, sym, ap, subst, ◌∙◌, arith, bit_xor, inl, inr, ltb, length-set}
use Rattle.std.specs.Prelude.{if◌then◌else◌, set}
use Rattle.std.proofs.lemmas.Bool.{cases_eq, lt-ltb, le-ltb}
use Rattle.std.proofs.lemmas.List.{get_or-set_same, get_or-set_other, length-map}
use Rattle.std.proofs.lemmas.Simd.{map-map, zip2_splat}
use lib.Lanes.{zip2}
use Rattle.aes_block.specs.Expansion.{expanded_key, round_key}
use Rattle.aes_block.specs.inside.Halves.{changed, masked, masked_last}
use Rattle.aes_block.specs.inside.RoundKeys.{AreKept, AreRoundKeys, kept, lanes_at}
use Rattle.aes_block.specs.declared.look_ups.Row.{Row}
use Rattle.aes_block.proofs.KeyBlocks.{IsBlock-round_key}

-- ---- one round key

pub kept_first : (i last : ℕ) (o r : List ℕ) → i ≡ 0 → r ≡ map changed o → r ≡ kept i last o
kept_first zero last o r e is = is
kept_first (suc i) last o r e is = absurd (omega arith)

later : (i last : ℕ) (o : List ℕ) → 1 ≤ i → kept i last o ≡ (if ltb i last then map masked o else map masked_last o)
later i last o some = ap (λ b. if b then (if ltb i last then map masked o else map masked_last o) else map changed o) (lt-ltb 0 i some)

kept_between : (i last : ℕ) (o : List ℕ) → 1 ≤ i → i < last → map masked o ≡ kept i last o
kept_between i last o some less = sym (later i last o some ∙ ap (λ b. if b then map masked o else map masked_last o) (lt-ltb i last less))

kept_last : (i last : ℕ) (o : List ℕ) → 1 ≤ i → last ≤ i → map masked_last o ≡ kept i last o
kept_last i last o some less = sym (later i last o some ∙ ap (λ b. if b then map masked o else map masked_last o) (le-ltb i last less))

pub kept_between_is : (i last : ℕ) (o m : List ℕ) → length o ≡ 16 → 1 ≤ i → i < last → m ≡ map changed o → zip2 bit_xor m (replicate 16 0x5b) ≡ kept i last o
kept_between_is i last o m l some less e =
    ap (λ v. zip2 bit_xor v (replicate 16 0x5b)) e
    ∙ zip2_splat bit_xor (map changed o) 16 0x5b (length-map o changed ∙ l)
    ∙ map-map (λ x. bit_xor x 0x5b) changed o
    ∙ kept_between i last o some less

pub kept_last_is : (i last : ℕ) (o : List ℕ) → length o ≡ 16 → 1 ≤ i → last ≤ i → zip2 bit_xor o (replicate 16 0x63) ≡ kept i last o
kept_last_is i last o l some less = zip2_splat bit_xor o 16 0x63 l ∙ kept_last i last o some less

-- ---- the round keys that were made so far

pub record AreKeptBelow (key : List ℕ) (last i : ℕ) (rows : List Row) : Type 0 where
  pub count : length rows ≡ 15
  pub are : (j : ℕ) → j < i → lanes_at rows j ≡ kept j last (round_key (expanded_key key) j)

pub none_kept : (key : List ℕ) (last : ℕ) (rows : List Row) → length rows ≡ 15 → AreKeptBelow key last 0 rows
none_kept key last rows l = record { count = l; are = λ j h. absurd (omega arith) }

pub one_kept : (key : List ℕ) (last i : ℕ) (rows : List Row) (row : Row) (octets : List ℕ) → i < 15 → octets ≡ round_key (expanded_key key) i
    → row.lanes ≡ kept i last octets → AreKeptBelow key last i rows → AreKeptBelow key last (i + 1) (set rows i row)
one_kept key last i rows row octets lt eo is was =
    let none : Row = record { lanes = [] } in
    record {
      count = length-set rows i row ∙ was.count;
      are = λ j h. elim (cases_eq j i) [
        | inl e ↦ subst (λ n. lanes_at (set rows i row) n ≡ kept n last (round_key (expanded_key key) n)) (sym e)
            (ap (λ (r : Row). r.lanes) (get_or-set_same rows i row none (omega (arith, was.count))) ∙ is ∙ ap (kept i last) eo)
        | inr n ↦ ap (λ (r : Row). r.lanes) (get_or-set_other rows i j row none n) ∙ was.are j (elim (cases_eq j i) [ inl e ↦ absurd (n e) | inr m ↦ omega arith ])
      ];
    }

-- ---- all of them

pub round_keys : (key : List ℕ) (n : ℕ) (rows : List Row) → AreKept key n rows → AreRoundKeys (expanded_key key) n rows
round_keys key n rows k =
    let some : 1 ≤ n = omega (arith, k.count) in
    record {
      blocks = λ i le. IsBlock-round_key key k.is_key i (omega (arith, k.count, le));
      first = k.are 0 (omega arith);
      between = λ i one less. k.are i (omega arith) ∙ sym (kept_between i n (round_key (expanded_key key) i) one less);
      last = k.are n (omega arith) ∙ sym (kept_last n n (round_key (expanded_key key) n) some (omega arith));
    }
