use Rattle.std.proofs.Common.{◌≡◌, false, replicate, refl}
use Rattle.gcm_core.specs.Blocks.{block_bits, block_octets}
use Rattle.gcm_core.proofs.Products.{next_hash-is}
use Rattle.gcm_core.proofs.WholeBlocks.{hashed_parts}
use Rattle.gcm_core.proofs.hash.hash_of.Goals as goal

zeros : block_bits 0 ≡ replicate 128 false
unfolding block_bits block_octets
zeros = refl

pub returns : goal.returns
returns c =
    let h = block_bits c.args.key.now in
    let extra = c.args.extra.now in
    let text = c.args.ciphertext.now in
    let y = block_bits c.absorbed-after_extra.result in
    let z = block_bits c.absorbed-after_text.result in
    hashed_parts h (block_bits 0) y z _ extra text _ zeros c.absorbed-after_extra.ensures c.absorbed-after_text.ensures c.lengths.ensures
    (next_hash-is _ _ _ _ _ c.multiplied.ensures refl)
