use Rattle.std.proofs.Common.{map, ◌∙◌, ap, bit_xor}
use Rattle.std.proofs.lemmas.Simd.{map-map, splat_is_map}
use Rattle.aes_block.specs.Octet.{sub_octet}
use Rattle.aes_block.specs.LookUp.{entry_at}
use Rattle.aes_block.specs.inside.Halves.{changed, first_half, second_half}
use Rattle.aes_block.specs.declared.tables.TheConstants.{SUB_FIRST, SUB_SECOND}
use Rattle.aes_block.proofs.Lanes.{equal_maps, looked, sum}
use Rattle.aes_block.proofs.SBox.{is_sub_octet, put_together}
use Rattle.aes_block.proofs.substitution.sub_octets.Goals as goal

pub returns : goal.returns
returns c =
    let v = c.args.octets in
    let first = c.inverse_halves.ensures.first ∙ ap (map first_half) c.changed.ensures ∙ map-map first_half changed v in
    let second = c.inverse_halves.ensures.second ∙ ap (map second_half) c.changed.ensures ∙ map-map second_half changed v in
    let one = looked SUB_FIRST (λ x. first_half (changed x)) v c.look_up.ensures first in
    let two = looked SUB_SECOND (λ x. second_half (changed x)) v c.look_up-2.ensures second in
    sum (λ x. bit_xor (entry_at SUB_FIRST (first_half (changed x))) (entry_at SUB_SECOND (second_half (changed x)))) (λ _. 0x63) v
    (sum (λ x. entry_at SUB_FIRST (first_half (changed x))) (λ x. entry_at SUB_SECOND (second_half (changed x))) v one two) (splat_is_map v 16 0x63 c.fits-octets.0)
    ∙ equal_maps put_together sub_octet is_sub_octet v c.fits-octets.1
