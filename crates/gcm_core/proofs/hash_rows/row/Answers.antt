use Rattle.std.proofs.Common.{◌/◌, bit_and}
use Rattle.aes_block.specs.LookUp.{entry_at}
use Rattle.aes_block.proofs.Public.{looked, lower, sum, upper}
use Rattle.gcm_core.proofs.hash_rows.row.Goals as goal

pub returns : goal.returns
returns c =
    let v = c.args.octets in
    sum (λ x. entry_at c.args.first (x / 16)) (λ x. entry_at c.args.last (bit_and x 15)) v
    (looked c.args.first (λ x. x / 16) v c.look_up.ensures (upper v c.fits-octets))
    (looked c.args.last (λ x. bit_and x 15) v c.look_up-2.ensures (lower v c.fits-octets))
