use Rattle.std.proofs.Common.{◌≡◌, ℕ, ◌-◌, List, ◌++◌, length, drop, replicate}
use Rattle.std.proofs.lemmas.List.{drop-replicate}
use Rattle.gcm_core.proofs.Octets.{block_octets-padded}
use Rattle.gcm_core.proofs.hash.padded_block.Goals as goal

pub returns : goal.returns
returns c =
    let octets = c.args.octets.now in
    let zeros : List ℕ = drop (length octets) (replicate 16 0) in
    let array : c.copy_from_slice.new.self ++ zeros ≡ octets ++ replicate (16 - length octets) 0 =
    λ i. c.copy_from_slice.ensures.after i ++ drop-replicate (length octets) 16 0 i in
    block_octets-padded octets (c.copy_from_slice.new.self ++ zeros) c.from_be_bytes.result c.from_be_bytes.ensures array
    c.requires (λ i. (c.type_inv.octets i).fits)
