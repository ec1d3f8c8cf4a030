use Rattle.aes_block.proofs.Lanes.{looked_up, places_ok}
use Rattle.aes_block.proofs.look_ups.look_up.Goals as goal

pub swizzle : goal.swizzle
swizzle c = places_ok c.args.at c.fits-at

pub returns : goal.returns
returns c = looked_up c.args.table c.args.at c.fits-at
