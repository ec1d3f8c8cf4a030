use Rattle.std.proofs.Common.{◌/◌, bit_and}
use Rattle.aes_block.specs.LookUp.{entry_at}
use Rattle.aes_block.specs.declared.tables.TheConstants.{OTHER_BASIS_LOW, OTHER_BASIS_HIGH}
use Rattle.aes_block.proofs.Lanes.{looked, lower, sum, upper}
use Rattle.aes_block.proofs.substitution.changed.Goals as goal

pub returns : goal.returns
returns c =
    let v = c.args.octets in
    sum (λ x. entry_at OTHER_BASIS_LOW (bit_and x 15)) (λ x. entry_at OTHER_BASIS_HIGH (x / 16)) v
    (looked OTHER_BASIS_LOW (λ x. bit_and x 15) v c.look_up.ensures (lower v c.fits-octets))
    (looked OTHER_BASIS_HIGH (λ x. x / 16) v c.look_up-2.ensures (upper v c.fits-octets))
