use Rattle.std.proofs.Common.{map, ap, ◌∙◌, bit_xor}
use lib.Lanes.{zip2}
use Rattle.aes_block.specs.Octet.{times}
use Rattle.aes_block.specs.State.{mix_columns}
use Rattle.aes_block.proofs.InverseLanes.{inv_mixed_is}
use Rattle.aes_block.proofs.OtherBasis.{vector_is_block}
use Rattle.aes_block.proofs.Steps.{mix_columns-inverse}
use Rattle.aes_block.proofs.inverse_rounds.inv_mixed.Goals as goal

pub returns : goal.returns
returns c =
    let v = c.args.octets in
    let is = vector_is_block v c.fits-octets in
    let twice = c.doubled-2.ensures ∙ ap (map (times 2)) c.doubled.ensures in
    ap mix_columns (c.mixed.ensures ∙ ap mix_columns (ap (zip2 bit_xor v) twice) ∙ inv_mixed_is v is) ∙ mix_columns-inverse.made v is
