use Rattle.std.proofs.Common.{ap, ◌∙◌}
use Rattle.gcm_core.specs.Blocks.{block_bits}
use Rattle.gcm_core.proofs.OctetLanes.{number_bits}
use Rattle.gcm_core.proofs.wide_block.number.Goals as goal

pub returns : goal.returns
returns c = ap block_bits c.from_be_bytes.ensures ∙ number_bits c.args.octets c.fits-octets
