-- Powers of x, and products with every four bits.
use Rattle.std.specs.Prelude.{◌≡◌, ◌<◌, ℕ, zero, suc, Bool, List, slice_index}
use Rattle.aes_block.specs.Product.{product, times_x}
use Rattle.gcm_core.specs.Blocks.{block_bits}
use Rattle.gcm_core.specs.Ghash.{four_places, reduction}

-- a block times so high a power of x
unfoldable pub times_power : ℕ → List Bool → List Bool
times_power zero v = v
times_power (suc n) v = times_power n (times_x reduction v)

-- for every four bits their product with a block
unfoldable pub AreProducts : List Bool → List ℕ → Type 0
AreProducts v rows =
    (n : ℕ) → n < 16 → block_bits (slice_index rows n) ≡ product reduction (four_places n) v
