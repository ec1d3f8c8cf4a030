use Rattle.receive_channels.proofs.StillSteps.{still-again}
use Rattle.receive_channels.proofs.laws.law_still_step_tells_nothing.Goals as goal

pub returns : goal.returns
returns c = still-again
