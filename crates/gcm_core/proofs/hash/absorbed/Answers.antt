use Rattle.std.proofs.Common.{◌≡◌, ◌<◌, ◌*◌, ◌/◌, [], get_or, length, take, drop, refl, sym, ap, ◌∙◌, arith}
use Rattle.gcm_core.specs.Blocks.{block_bits, blocks_of, padded}
use Rattle.gcm_core.specs.Ghash.{ghash}
use Rattle.gcm_core.proofs.Groups.{group_at, group_more}
use Rattle.gcm_core.proofs.hash.absorbed.Goals as goal

pub loop-four-init : goal.loop-four-init
loop-four-init c = refl

pub loop-four-preserved : goal.loop-four-preserved
loop-four-preserved c =
    let os = c.args.octets.now in
    let j = c.loop-four.four-index in
    let there : j < length os / 64 = omega (arith, c.loop-four-test.true, c.as_chunks.ensures.front_len) in
    let is : get_or c.as_chunks.result.0.now j [] ≡ take 64 (drop (64 * j) os) =
    ap (λ bs. get_or bs j []) c.as_chunks.ensures.front ∙ group_at (length os / 64) j os there in
    group_more _ _ _ os _ j there is c.after_four-value.ensures ∙ c.loop-four.invariant

pub returns : goal.returns
returns c =
    let os = c.args.octets.now in
    let e : 64 * c.loop-four.four-index ≡ length os / 64 * 64 = omega (arith, c.loop-four-test.false, c.as_chunks.ensures.front_len) in
    let h = block_bits c.args.key.now in
    c.absorbed_by_one.ensures
    ∙ ap (λ rs. ghash h (block_bits c.loop-four.value) (blocks_of (padded rs))) (c.as_chunks.ensures.back ∙ ap (λ n. drop n os) (sym e))
    ∙ c.loop-four.invariant
