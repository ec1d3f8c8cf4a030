use Rattle.std.proofs.Common.{◌/◌, ◌∙◌, bit_and, bit_xor}
use Rattle.aes_block.specs.LookUp.{entry_at}
use Rattle.aes_block.specs.Octet.{times}
use Rattle.aes_block.specs.declared.tables.TheConstants.{DOUBLED_LOW, DOUBLED_HIGH}
use Rattle.aes_block.proofs.InverseLanes.{is_doubled}
use Rattle.aes_block.proofs.Lanes.{equal_maps, looked, lower, sum, upper}
use Rattle.aes_block.proofs.inverse_rounds.doubled.Goals as goal

pub returns : goal.returns
returns c =
    let v = c.args.octets in
    sum (λ x. entry_at DOUBLED_LOW (bit_and x 15)) (λ x. entry_at DOUBLED_HIGH (x / 16)) v
    (looked DOUBLED_LOW (λ x. bit_and x 15) v c.look_up.ensures (lower v c.fits-octets))
    (looked DOUBLED_HIGH (λ x. x / 16) v c.look_up-2.ensures (upper v c.fits-octets))
    ∙ equal_maps (λ x. bit_xor (entry_at DOUBLED_LOW (bit_and x 15)) (entry_at DOUBLED_HIGH (x / 16))) (times 2) is_doubled v c.fits-octets.1
