use Rattle.std.proofs.Common.{◌≡◌, ◌<◌, ◌*◌, ◌/◌, [], get_or, length, take, drop, refl, sym, ap, ◌∙◌, arith, rules}
use Rattle.std.proofs.lemmas.List.{length-take-le, length-drop}
use Rattle.std.proofs.lemmas.List.Elements.{All-from_get_or, All-same, All-take, All-drop}
use Rattle.std.specs.List.{All}
use Rattle.gcm_core.specs.Blocks.{block_octets}
use Rattle.gcm_core.proofs.Octets.{IsOctet, block_octets-read}
use Rattle.gcm_core.proofs.Products.{next_hash-is}
use Rattle.gcm_core.proofs.WholeBlocks.{chunk_at, ghash_last, ghash_none, ghash_step, ghash_whole}
use Rattle.gcm_core.proofs.hash.absorbed_by_one.Goals as goal

pub loop-block-init : goal.loop-block-init
loop-block-init c = refl

-- the block at hand, read as a number
read : (c : goal.After-multiplied-value) → block_octets c.from_be_bytes.result ≡ get_or c.as_chunks.result.0.now c.loop-block.block-index []
read c =
    let octets = c.args.octets.now in
    let j = c.loop-block.block-index in
    let block = get_or c.as_chunks.result.0.now j [] in
    let there : j < length octets / 16 = omega (arith, c.loop-block-test.true, c.as_chunks.ensures.front_len) in
    let is : block ≡ take 16 (drop (16 * j) octets) =
    ap (λ bs. get_or bs j []) c.as_chunks.ensures.front ∙ chunk_at (length octets / 16) j octets there in
    let len : length block ≡ 16 = ap length is ∙ length-take-le 16 (drop (16 * j) octets) (omega (arith, length-drop (16 * j) octets)) in
    let all : All IsOctet octets = All-from_get_or IsOctet octets 0 (λ i h. (c.type_inv.octets i).fits) in
    let fits : All IsOctet block =
    All-same IsOctet block (take 16 (drop (16 * j) octets)) is (All-take IsOctet 16 (drop (16 * j) octets) (All-drop IsOctet (16 * j) octets all)) in
    ap block_octets c.from_be_bytes.ensures ∙ block_octets-read block len fits

pub loop-block-preserved : goal.loop-block-preserved
loop-block-preserved c =
    ghash_step _ _ _ c.as_chunks.result.0.now c.loop-block.block-index c.loop-block-test.true
    (next_hash-is _ _ _ _ _ c.multiplied-value.ensures (read c))
    ∙ c.loop-block.invariant

pub returns-then-not-is_empty : goal.returns-then-not-is_empty
returns-then-not-is_empty c =
    let some : 0 < length c.as_chunks.result.1.now = search rules in
    let cut = c.as_chunks.ensures in
    sym (ghash_whole _ _ _ c.args.octets.now _ _ _ cut.front cut.back (omega (arith, c.loop-block-test.false)) c.loop-block.invariant
    ∙ ghash_last _ _ _ _ some (omega (arith, cut.back_len))
    (next_hash-is _ _ _ _ _ c.multiplied-value-then-not-is_empty.ensures c.padded_block.ensures))

pub returns-else-not-is_empty : goal.returns-else-not-is_empty
returns-else-not-is_empty c =
    let none : length c.as_chunks.result.1.now ≡ 0 = search rules in
    let cut = c.as_chunks.ensures in
    sym (ghash_whole _ _ _ c.args.octets.now _ _ _ cut.front cut.back (omega (arith, c.loop-block-test.false)) c.loop-block.invariant
    ∙ ghash_none _ _ _ none)
