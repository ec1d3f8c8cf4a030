-- The round keys of a key are blocks, and so the cipher under it can be undone.
use Rattle.std.proofs.Common.{◌≡◌, ℕ, zero, suc, ◌+◌, ◌-◌, ◌*◌, ◌/◌, ◌%◌, ◌<◌, ◌≤◌, Bool, true, false, ◌&&◌, List, [], ◌∷◌, ◌++◌, length, take, drop, sym, ap, subst, ◌∙◌, arith, inl, inr, length-drop}
use Rattle.std.specs.Prelude.{if◌then◌else◌, nat_lt, ◌==◌, slice_index_or}
use Rattle.std.proofs.Math.Seq.{get_or-append_seam}
use Rattle.std.proofs.lemmas.Bool.{cases_lt, lt-ltb, le-ltb}
use Rattle.std.proofs.lemmas.List.{get_or_append_left, length-take-le}
use Rattle.aes_block.specs.Octet.{octets_sum}
use Rattle.aes_block.specs.Expansion.{addend, expanded_key, expansion, key_words, next_word, power_of_x, rot_word, round_constant, round_count, round_key, sub_word, word_at}
use Rattle.aes_block.specs.Aes.{IsBlock, IsKey, aes}
use Rattle.aes_block.proofs.Octets.{AreOctets, AreOctets-from_All, AreOctets-take, AreOctets-drop}
use Rattle.aes_block.proofs.Doubled.{times_2-lt}
use Rattle.aes_block.proofs.SBox.{sub_octet-lt}
use Rattle.aes_block.proofs.Mixing.{IsFour, four, IsFour-from, IsFour-sum}
use Rattle.aes_block.proofs.Steps.{AreInverse, columns-IsBlock}
use Rattle.aes_block.proofs.Schedule.{length-expansion}
use Rattle.aes_block.proofs.Rounds.{HasKeys, inv_cipher, cipher-inverse}

power_of_x-lt : (n : ℕ) → power_of_x n < 256
unfolding power_of_x
power_of_x-lt zero = omega arith
power_of_x-lt (suc n) = times_2-lt (power_of_x n) (power_of_x-lt n)

IsFour-sub_word : {word : List ℕ} → IsFour word → IsFour (sub_word word)
IsFour-sub_word (four fa fb fc fd) = four (sub_octet-lt _ fa) (sub_octet-lt _ fb) (sub_octet-lt _ fc) (sub_octet-lt _ fd)

IsFour-rot_word : {word : List ℕ} → IsFour word → IsFour (rot_word word)
IsFour-rot_word (four fa fb fc fd) = four fb fc fd fa

IsFour-if : (b : Bool) (x y : List ℕ) → IsFour x → IsFour y → IsFour (if b then x else y)
IsFour-if true x y fx fy = fx
IsFour-if false x y fx fy = fy

IsFour-addend : (nk i : ℕ) (last : List ℕ) → IsFour last → IsFour (addend nk i last)
IsFour-addend nk i last h =
    let none : 0 < 256 = omega arith in
    let constant : IsFour (round_constant (i / nk)) = four (power_of_x-lt (i / nk - 1)) none none none in
    IsFour-if (i % nk == 0) _ _ (IsFour-sum (IsFour-sub_word (IsFour-rot_word h)) constant)
    (IsFour-if (nat_lt 6 nk && i % nk == 4) _ _ (IsFour-sub_word h) h)

module _ (key : List ℕ) (octets : AreOctets key) (some : 4 ≤ length key) where
  IsFour-next_word : (words : List (List ℕ)) (i : ℕ) → ((j : ℕ) → j < i → IsFour (word_at words j)) → IsFour (next_word key words i)
  IsFour-next_word words i before =
      let later = octets_sum (word_at words (i - key_words key)) (addend (key_words key) i (word_at words (i - 1))) in
      let own = take 4 (drop (4 * i) key) in
      elim (cases_lt i (key_words key)) [
        | inl less ↦ let enough : 4 ≤ length (drop (4 * i) key) = omega (arith, length-drop (4 * i) key) in
            subst (λ b. IsFour (if b then own else later)) (sym (lt-ltb i (key_words key) less))
            (IsFour-from own (length-take-le 4 (drop (4 * i) key) enough) (AreOctets-take 4 (drop (4 * i) key) (AreOctets-drop (4 * i) key octets)))
        | inr more ↦ subst (λ b. IsFour (if b then own else later)) (sym (le-ltb i (key_words key) more))
            (IsFour-sum (before (i - key_words key) (omega arith)) (IsFour-addend (key_words key) i _ (before (i - 1) (omega arith))))
      ]

  -- each word of the expanded key has four octets
  IsFour-word : (n j : ℕ) → j < n → IsFour (word_at (expansion key n) j)
  unfolding expansion
  IsFour-word zero j lt = absurd (omega arith)
  IsFour-word (suc n) j lt =
      let words = expansion key n in
      let count = length-expansion key n in
      elim (cases_lt j n) [
        | inl less ↦ subst IsFour (sym (get_or_append_left words (next_word key words (length words) ∷ []) [] j (omega arith))) (IsFour-word n j less)
        | inr more ↦ let last : j ≡ length words = omega arith in
            subst IsFour (sym (ap (λ k. slice_index_or (words ++ next_word key words (length words) ∷ []) k []) last ∙ get_or-append_seam words _ [] []))
            (subst (λ k. IsFour (next_word key words k)) (sym count) (IsFour-next_word words n (IsFour-word n)))
      ]

  -- four words in a row are a block
  IsBlock-word_key : (n i : ℕ) → 4 * i + 4 ≤ n → IsBlock (round_key (expansion key n) i)
  unfolding round_key
  IsBlock-word_key n i le =
      columns-IsBlock (IsFour-word n (4 * i) (omega arith)) (IsFour-word n (4 * i + 1) (omega arith)) (IsFour-word n (4 * i + 2) (omega arith))
      (IsFour-word n (4 * i + 3) (omega arith))

some_octets : (key : List ℕ) → IsKey key → 4 ≤ length key
some_octets key h = elim h.count [ inl e ↦ omega arith | inr e ↦ elim e [ inl e' ↦ omega arith | inr e' ↦ omega arith ] ]

-- each round key is a block
pub IsBlock-round_key : (key : List ℕ) → IsKey key → (i : ℕ) → i ≤ round_count key → IsBlock (round_key (expanded_key key) i)
IsBlock-round_key key h i le = IsBlock-word_key key (AreOctets-from_All key h.octets) (some_octets key h) (4 * (round_count key + 1)) i (omega (arith, le))

-- the cipher under a key, undone
pub inv_aes : List ℕ → List ℕ → List ℕ
inv_aes key t = inv_cipher (expanded_key key) (round_count key) t

pub aes-inverse : (key : List ℕ) → IsKey key → AreInverse (aes key) (inv_aes key)
unfolding aes inv_aes HasKeys
aes-inverse key h =
    cipher-inverse (expanded_key key) (round_count key)
    (IsBlock-round_key key h)
