-- The cipher of FIPS 197 over lists of octets (section 5.1).
use Rattle.std.specs.Prelude.{◌≡◌, ◌<◌, ◌⊎◌, ℕ, zero, suc, ◌-◌, List, length, All}
use Rattle.aes_block.specs.State.{add_round_key, round, last_round}
use Rattle.aes_block.specs.Expansion.{expanded_key, round_count, round_key}

-- so many octets
pub record IsOctets (n : ℕ) (word : List ℕ) : Type 0 where
  pub count : length word ≡ n
  pub octets : All (λ octet. octet < 256) word

-- a block: 16 octets
abbrev pub IsBlock : List ℕ → Type 0
IsBlock block = IsOctets 16 block

-- 16, 24 or 32 octets (5.2)
pub record IsKey (key : List ℕ) : Type 0 where
  pub count : (length key ≡ 16) ⊎ ((length key ≡ 24) ⊎ (length key ≡ 32))
  pub octets : All (λ octet. octet < 256) key

-- the state after so many whole rounds: before the first one a round key is added to the block
-- (5.1)
unfoldable pub after_rounds : List (List ℕ) → List ℕ → ℕ → List ℕ
after_rounds words block zero = add_round_key block (round_key words zero)
after_rounds words block (suc n) = round (after_rounds words block n) (round_key words (suc n))

-- so many rounds of a block, with the words of the expanded key (5.1)
unfoldable pub cipher : List (List ℕ) → List ℕ → ℕ → List ℕ
cipher words block rounds =
    last_round (after_rounds words block (rounds - 1)) (round_key words rounds)

-- the encryption of a block under a key (5.1)
unfoldable pub aes : List ℕ → List ℕ → List ℕ
aes key block = cipher (expanded_key key) block (round_count key)
