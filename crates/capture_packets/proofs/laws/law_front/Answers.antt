use Rattle.capture_packets.proofs.FrontSteps.{front-told}
use Rattle.capture_packets.proofs.laws.law_front.Goals as goal

pub returns : goal.returns
returns c = λ front rest. front-told front rest
