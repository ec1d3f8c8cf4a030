-- Rounds, and the whole cipher, keep blocks, and no two blocks have one ciphertext.
use Rattle.std.proofs.Common.{ℕ, zero, suc, ◌-◌, ◌≤◌, List, arith}
use Rattle.aes_block.specs.Octet.{octets_sum}
use Rattle.aes_block.specs.State.{sub_bytes, shift_rows, mix_columns, round, last_round}
use Rattle.aes_block.specs.Expansion.{round_key}
use Rattle.aes_block.specs.Aes.{IsBlock, after_rounds, cipher}
use Rattle.aes_block.proofs.Steps.{AreInverse, AreInverse-after, octets_sum-inverse, sub_bytes-inverse, shift_rows-inverse, mix_columns-inverse, inv_sub_bytes, inv_shift_rows, inv_mix_columns}

-- a last round, undone from its end
pub inv_last_round : List ℕ → List ℕ → List ℕ
inv_last_round key t = inv_sub_bytes (inv_shift_rows (octets_sum t key))

pub last_round-inverse : (key : List ℕ) → IsBlock key → AreInverse (λ s. last_round s key) (inv_last_round key)
unfolding last_round inv_last_round
last_round-inverse key k =
    AreInverse-after (λ s. octets_sum s key) (λ s. octets_sum s key) (λ s. shift_rows (sub_bytes s)) (λ s. inv_sub_bytes (inv_shift_rows s))
    (octets_sum-inverse key k) (AreInverse-after shift_rows inv_shift_rows sub_bytes inv_sub_bytes shift_rows-inverse sub_bytes-inverse)

-- a round, undone from its end
pub inv_round : List ℕ → List ℕ → List ℕ
inv_round key t = inv_sub_bytes (inv_shift_rows (inv_mix_columns (octets_sum t key)))

pub round-inverse : (key : List ℕ) → IsBlock key → AreInverse (λ s. round s key) (inv_round key)
unfolding round inv_round
round-inverse key k =
    AreInverse-after (λ s. octets_sum s key) (λ s. octets_sum s key) (λ s. mix_columns (shift_rows (sub_bytes s)))
    (λ s. inv_sub_bytes (inv_shift_rows (inv_mix_columns s))) (octets_sum-inverse key k)
    (AreInverse-after mix_columns inv_mix_columns (λ s. shift_rows (sub_bytes s)) (λ s. inv_sub_bytes (inv_shift_rows s)) mix_columns-inverse
    (AreInverse-after shift_rows inv_shift_rows sub_bytes inv_sub_bytes shift_rows-inverse sub_bytes-inverse))

-- each round key up to the n-th is a block
unfoldable pub HasKeys : List (List ℕ) → ℕ → Type 0
HasKeys words n = (i : ℕ) → i ≤ n → IsBlock (round_key words i)

-- whole rounds, undone from the end
pub inv_rounds : List (List ℕ) → ℕ → List ℕ → List ℕ
inv_rounds words zero t = octets_sum t (round_key words zero)
inv_rounds words (suc n) t = inv_rounds words n (inv_round (round_key words (suc n)) t)

pub after_rounds-inverse : (words : List (List ℕ)) (n : ℕ) → HasKeys words n → AreInverse (λ s. after_rounds words s n) (inv_rounds words n)
unfolding HasKeys after_rounds inv_rounds
after_rounds-inverse words zero keys = octets_sum-inverse (round_key words zero) (keys zero (omega arith))
after_rounds-inverse words (suc n) keys =
    AreInverse-after (λ s. round s (round_key words (suc n))) (inv_round (round_key words (suc n))) (λ s. after_rounds words s n) (inv_rounds words n)
    (round-inverse (round_key words (suc n)) (keys (suc n) (omega arith))) (after_rounds-inverse words n (λ i le. keys i (omega arith)))

-- the cipher, undone from its end
pub inv_cipher : List (List ℕ) → ℕ → List ℕ → List ℕ
inv_cipher words n t = inv_rounds words (n - 1) (inv_last_round (round_key words n) t)

pub cipher-inverse : (words : List (List ℕ)) (n : ℕ) → HasKeys words n → AreInverse (λ s. cipher words s n) (inv_cipher words n)
unfolding HasKeys cipher inv_cipher
cipher-inverse words n keys =
    AreInverse-after (λ s. last_round s (round_key words n)) (inv_last_round (round_key words n)) (λ s. after_rounds words s (n - 1)) (inv_rounds words (n - 1))
    (last_round-inverse (round_key words n) (keys n (omega arith))) (after_rounds-inverse words (n - 1) (λ i le. keys i (omega arith)))
