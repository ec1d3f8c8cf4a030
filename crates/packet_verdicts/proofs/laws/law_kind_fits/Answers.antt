use Rattle.packet_verdicts.proofs.Fitting.{packet-fits}
use Rattle.packet_verdicts.proofs.laws.law_kind_fits.Goals as goal

pub returns : goal.returns
returns c groups packet = packet-fits groups packet
