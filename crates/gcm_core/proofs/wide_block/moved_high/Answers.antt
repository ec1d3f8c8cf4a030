use Rattle.gcm_core.proofs.Moved.{moved_high_is}
use Rattle.gcm_core.proofs.wide_block.moved_high.Goals as goal

pub returns : goal.returns
returns c = moved_high_is c.args.low c.args.high c.fits-low.0 c.fits-high.0
