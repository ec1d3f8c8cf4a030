-- The products by 2 and by 3: by a shift, and additive.
use Rattle.std.proofs.Common.{◌≡◌, ℕ, ◌*◌, ◌/◌, ◌<◌, refl, sym, ◌∙◌, bit_and, bit_xor}
use Rattle.std.proofs.lemmas.Nat.{xor_of_8}
use Rattle.aes_block.specs.Octet.{times}
use Rattle.aes_block.proofs.EachOctet.{equal_at_octet, equal_at_octets, below_at_octet}

-- twice an octet: a shift, and 0x1b where a bit falls out (4.2.1)
abbrev pub shifted : ℕ → ℕ
shifted n = bit_xor (bit_and n 0x7f * 2) (bit_and n 0x80 / 128 * 0x1b)

pub times_2 : (n : ℕ) → n < 256 → times 2 n ≡ shifted n
unfolding times
times_2 = equal_at_octet (times 2) shifted refl

pub times_3 : (n : ℕ) → n < 256 → times 3 n ≡ bit_xor n (times 2 n)
unfolding times
times_3 = equal_at_octet (times 3) (λ n. bit_xor n (times 2 n)) refl

pub times_2-lt : (n : ℕ) → n < 256 → times 2 n < 256
unfolding times
times_2-lt = below_at_octet (times 2) 256 refl

shifted-xor : (a b : ℕ) → a < 256 → b < 256 → shifted (bit_xor a b) ≡ bit_xor (shifted a) (shifted b)
shifted-xor = equal_at_octets (λ a b. shifted (bit_xor a b)) (λ a b. bit_xor (shifted a) (shifted b)) refl

-- twice a sum is the sum of the doubles
pub times_2-xor : (a b : ℕ) → a < 256 → b < 256 → times 2 (bit_xor a b) ≡ bit_xor (times 2 a) (times 2 b)
times_2-xor a b fa fb =
    times_2 (bit_xor a b) (xor_of_8 a b fa fb) ∙ shifted-xor a b fa fb ∙ sym (λ i. bit_xor (times_2 a fa i) (times_2 b fb i))
