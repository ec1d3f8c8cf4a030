use Rattle.std.proofs.Common.{◌≡◌, ℕ, List, Bool, subst, ap, ◌∙◌}
use Rattle.aes_block.specs.Bits.{bits}
use Rattle.aes_block.specs.Product.{product}
use Rattle.gcm_core.specs.Blocks.{block_bits, block_octets}
use Rattle.gcm_core.specs.Ghash.{reduction}
use Rattle.gcm_core.proofs.Products.{length-block_bits}
use Rattle.gcm_core.specs.inside.Rows.{rows_in}
use Rattle.gcm_core.specs.inside.Powers.{AreRows, power}
use Rattle.gcm_core.proofs.hash_key.HashKey.of.Goals as goal

pub invariant_of-result : goal.invariant_of-result
unfolding block_bits block_octets
invariant_of-result c =
    let h = block_bits c.args.h in
    let l = length-block_bits c.args.h in
    let one = c.rows_of-one.ensures in
    let is = λ (os : List ℕ). product reduction (bits os) h in
    let second : block_bits c.times-second.result ≡ power h 1 = c.times-second.ensures h l one ∙ ap is c.to_be_bytes.ensures in
    let third : block_bits c.times-third.result ≡ power h 2 =
    c.times-third.ensures h l one ∙ ap is c.to_be_bytes-2.ensures ∙ ap (λ (v : List Bool). product reduction v h) second in
    let fourth : block_bits c.times-fourth.result ≡ power h 3 =
    c.times-fourth.ensures h l one ∙ ap is c.to_be_bytes-3.ensures ∙ ap (λ (v : List Bool). product reduction v h) third in
    let two = c.rows_of.result in
    let three = c.rows_of-2.result in
    let four = c.rows_of-3.result in
    record {
      first = one;
      second = subst (λ (v : List Bool). AreRows v (rows_in two.first two.last)) second c.rows_of.ensures;
      third = subst (λ (v : List Bool). AreRows v (rows_in three.first three.last)) third c.rows_of-2.ensures;
      fourth = subst (λ (v : List Bool). AreRows v (rows_in four.first four.last)) fourth c.rows_of-3.ensures;
    }
