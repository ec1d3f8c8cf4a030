-- What a key holds: its own words, and the expansion of them.
use Rattle.std.proofs.Common.{◌≡◌, ℕ, ◌+◌, ◌*◌, ◌≤◌, ◌⊎◌, List, [], ◌∷◌, length, take, map, refl, sym, ap, subst, ◌∙◌, arith, inl, inr, length-append}
use Rattle.std.specs.Prelude.{if◌then◌else◌, ◌==◌, codes}
use Rattle.std.proofs.lemmas.List.{length-take-le}
use Rattle.aes_block.specs.Column.{octets_of, octets_of_words}
use Rattle.aes_block.specs.Expansion.{expanded_key, expansion, round_count}
use Rattle.aes_block.specs.Aes.{IsKey}
use Rattle.aes_block.specs.Secrets.{key_text}
use Rattle.aes_block.specs.inside.Held.{key_octets, words_of}
use Rattle.aes_block.specs.declared.expanded_key.Length.{Length}
use Rattle.aes_block.specs.declared.expanded_key.Length.TheVariants.{Bits128, Bits256}
use Rattle.aes_block.proofs.Octets.{AreOctets, All-from_AreOctets, AreOctets-append}
use Rattle.aes_block.proofs.Schedule.{key_of_words, length-expansion}
use Rattle.aes_block.proofs.Words.{octets_of-AreOctets}

AreOctets-words : (words : List ℕ) → AreOctets (octets_of_words words)
AreOctets-words [] = tt
AreOctets-words (w ∷ ws) = AreOctets-append (octets_of w) (octets_of_words ws) (octets_of-AreOctets w) (AreOctets-words ws)

length-octets_of_words : (words : List ℕ) → length (octets_of_words words) ≡ 4 * length words
unfolding octets_of
length-octets_of_words [] = refl
length-octets_of_words (w ∷ ws) =
    let four : length (octets_of w) ≡ 4 = refl in
    omega (arith, four, length-append (octets_of w) (octets_of_words ws), length-octets_of_words ws)

-- at most eight words are the key's own
pub words_of-le : (l : Length) → words_of l ≤ 8
words_of-le Bits128 = omega arith
words_of-le Bits256 = omega arith

pub length-key_octets : (l : Length) (ws : List ℕ) → 8 ≤ length ws → length (key_octets l ws) ≡ 4 * words_of l
length-key_octets l ws room =
    omega (arith, length-octets_of_words (take (words_of l) ws), length-take-le (words_of l) ws (omega (arith, words_of-le l)))

-- a key of 4 or 8 words has 16 or 32 octets
pub two_lengths : (l : Length) (n : ℕ) → n ≡ 4 * words_of l → (n ≡ 16) ⊎ (n ≡ 32)
two_lengths Bits128 n is = inl is
two_lengths Bits256 n is = inr is

pub IsKey-key_octets : (l : Length) (ws : List ℕ) → 8 ≤ length ws → IsKey (key_octets l ws)
IsKey-key_octets l ws room = record {
  count = elim (two_lengths l _ (length-key_octets l ws room)) [ inl e ↦ inl e | inr e ↦ inr (inr e) ];
  octets = All-from_AreOctets _ (AreOctets-words (take (words_of l) ws));
}

pub round_count-key_octets : (l : Length) (ws : List ℕ) → 8 ≤ length ws → round_count (key_octets l ws) ≡ words_of l + 6
round_count-key_octets l ws room = omega (arith, length-key_octets l ws room)

-- words that begin with the expansion of a key hold it
pub holds : (l : Length) (key ws : List ℕ) (n : ℕ) → length key ≡ 4 * words_of l → 4 * (words_of l + 6 + 1) ≤ n
    → map octets_of (take n ws) ≡ expansion key n → key_octets l ws ≡ key
holds l key ws n count le same = key_of_words key ws (words_of l) n count (omega arith) same

pub holds-expanded : (l : Length) (key ws : List ℕ) (n : ℕ) → length key ≡ 4 * words_of l → n ≡ 4 * (words_of l + 6 + 1)
    → map octets_of (take n ws) ≡ expansion key n
    → map octets_of (take (length (expanded_key (key_octets l ws))) ws) ≡ expanded_key (key_octets l ws)
holds-expanded l key ws n count is same =
    let view = holds l key ws n count (omega (arith, is)) same in
    let all : n ≡ 4 * (round_count key + 1) = omega (arith, is, count) in
    subst (λ k. map octets_of (take (length (expanded_key k)) ws) ≡ expanded_key k) (sym view)
    (ap (λ m. map octets_of (take m ws)) (length-expansion key (4 * (round_count key + 1)))
    ∙ subst (λ m. map octets_of (take m ws) ≡ expansion key m) all same)

-- what is told of a key of 16 octets, and of one of 32
pub key_text-short : (key : List ℕ) → length key ≡ 16 → key_text key ≡ codes "Key(128 bits)"
key_text-short key count = ap (λ n. if n == 32 then codes "Key(256 bits)" else codes "Key(128 bits)") count

pub key_text-long : (key : List ℕ) → length key ≡ 32 → key_text key ≡ codes "Key(256 bits)"
key_text-long key count = ap (λ n. if n == 32 then codes "Key(256 bits)" else codes "Key(128 bits)") count
