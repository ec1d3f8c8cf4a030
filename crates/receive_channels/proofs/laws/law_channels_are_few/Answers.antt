use Rattle.receive_channels.proofs.Few.{few}
use Rattle.receive_channels.proofs.laws.law_channels_are_few.Goals as goal

pub returns : goal.returns
returns c = few
