use Rattle.std.proofs.Common.{◌≡◌, ℕ, subst}
use Rattle.aes_block.specs.Bits.{bits}
use Rattle.aes_block.specs.Product.{product}
use Rattle.gcm_core.specs.Blocks.{block_bits}
use Rattle.gcm_core.specs.Ghash.{reduction}
use Rattle.gcm_core.proofs.Products.{length-block_bits}
use Rattle.gcm_core.proofs.hash_key.HashKey.times.Goals as goal

pub returns : goal.returns
returns c =
    let s = c.self.inside in
    subst (λ (h : ℕ). block_bits c.times.result ≡ product reduction (bits c.args.octets) (block_bits h)) c.self.view_is
    (c.times.ensures (block_bits s.key) (length-block_bits s.key) c.self.invariant.first)
