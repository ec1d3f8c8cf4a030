use Rattle.std.proofs.Common.{map, ◌∙◌, ap}
use Rattle.std.proofs.lemmas.Simd.{map-map}
use Rattle.aes_block.specs.LookUp.{entry_at}
use Rattle.aes_block.specs.Octet.{sub_octet}
use Rattle.aes_block.specs.inside.Halves.{first_half, second_half, undone}
use Rattle.aes_block.specs.declared.tables.TheConstants.{INV_SUB_FIRST, INV_SUB_SECOND}
use Rattle.aes_block.proofs.Lanes.{looked, sum}
use Rattle.aes_block.proofs.OtherBasis.{vector_is_block}
use Rattle.aes_block.proofs.Steps.{sub_octets_undone}
use Rattle.aes_block.proofs.substitution.inv_sub_octets.Goals as goal

pub returns : goal.returns
returns c =
    let v = c.args.octets in
    let first = c.inverse_halves.ensures.first ∙ ap (map first_half) c.undone.ensures ∙ map-map first_half undone v in
    let second = c.inverse_halves.ensures.second ∙ ap (map second_half) c.undone.ensures ∙ map-map second_half undone v in
    let one = looked INV_SUB_FIRST (λ x. first_half (undone x)) v c.look_up.ensures first in
    let two = looked INV_SUB_SECOND (λ x. second_half (undone x)) v c.look_up-2.ensures second in
    ap (map sub_octet) (sum (λ x. entry_at INV_SUB_FIRST (first_half (undone x))) (λ x. entry_at INV_SUB_SECOND (second_half (undone x))) v one two)
    ∙ sub_octets_undone v (vector_is_block v c.fits-octets)
