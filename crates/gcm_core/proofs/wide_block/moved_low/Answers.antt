use Rattle.gcm_core.proofs.Moved.{moved_low_is}
use Rattle.gcm_core.proofs.wide_block.moved_low.Goals as goal

pub returns : goal.returns
returns c = moved_low_is c.args.low c.fits-low.0
