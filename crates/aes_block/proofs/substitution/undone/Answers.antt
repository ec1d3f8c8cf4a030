use Rattle.std.proofs.Common.{◌/◌, bit_and}
use Rattle.aes_block.specs.LookUp.{entry_at}
use Rattle.aes_block.specs.declared.tables.TheConstants.{UNDONE_LOW, UNDONE_HIGH}
use Rattle.aes_block.proofs.Lanes.{looked, lower, sum, upper}
use Rattle.aes_block.proofs.substitution.undone.Goals as goal

pub returns : goal.returns
returns c =
    let v = c.args.octets in
    sum (λ x. entry_at UNDONE_LOW (bit_and x 15)) (λ x. entry_at UNDONE_HIGH (x / 16)) v
    (looked UNDONE_LOW (λ x. bit_and x 15) v c.look_up.ensures (lower v c.fits-octets))
    (looked UNDONE_HIGH (λ x. x / 16) v c.look_up-2.ensures (upper v c.fits-octets))
