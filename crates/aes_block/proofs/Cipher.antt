-- The cipher a round at a time.
use Rattle.std.proofs.Common.{◌≡◌, ℕ, zero, suc, ◌+◌, ◌-◌, ◌≤◌, List, sym, ap, ◌∙◌, arith}
use Rattle.aes_block.specs.State.{add_round_key, round, last_round}
use Rattle.aes_block.specs.Expansion.{expanded_key, round_count, round_key}
use Rattle.aes_block.specs.Aes.{aes, after_rounds, cipher}

-- one round more
pub after_rounds-more : (words : List (List ℕ)) (block : List ℕ) (i : ℕ) → 1 ≤ i
    → round (after_rounds words block (i - 1)) (round_key words i) ≡ after_rounds words block (i + 1 - 1)
unfolding after_rounds
after_rounds-more words block i le =
    let before : ℕ = i - 1 in
    let here : i ≡ suc before = omega arith in
    let next : i + 1 - 1 ≡ suc before = omega arith in
    ap (λ k. round (after_rounds words block before) (round_key words k)) here ∙ sym (ap (after_rounds words block) next)

-- no round yet
pub after_rounds-none : (words : List (List ℕ)) (block : List ℕ) (i : ℕ) → i ≤ 1
    → after_rounds words block (i - 1) ≡ add_round_key block (round_key words 0)
unfolding after_rounds
after_rounds-none words block i le =
    let none : i - 1 ≡ zero = omega arith in
    ap (after_rounds words block) none

-- the last round ends the cipher
pub last_round-after : (key block : List ℕ) (i n : ℕ) → i ≡ round_count key → n ≡ round_count key
    → last_round (after_rounds (expanded_key key) block (i - 1)) (round_key (expanded_key key) n)
    ≡ aes key block
unfolding aes cipher
last_round-after key block i n i_is n_is =
    let words = expanded_key key in
    λ j. last_round (after_rounds words block (i_is j - 1)) (round_key words (n_is j))
