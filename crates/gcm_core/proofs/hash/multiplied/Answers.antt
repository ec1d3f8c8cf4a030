use Rattle.std.proofs.Common.{ℕ, List, ap, ◌∙◌}
use Rattle.aes_block.specs.Bits.{bits}
use Rattle.aes_block.specs.Product.{product}
use Rattle.gcm_core.specs.Blocks.{block_bits, block_octets}
use Rattle.gcm_core.specs.Ghash.{reduction}
use Rattle.gcm_core.proofs.hash.multiplied.Goals as goal

pub returns : goal.returns
unfolding block_bits block_octets
returns c = c.times.ensures ∙ ap (λ (os : List ℕ). product reduction (bits os) (block_bits c.args.key.now)) c.to_be_bytes.ensures
