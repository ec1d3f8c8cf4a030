use Rattle.receive_channels.proofs.Received.{received-once}
use Rattle.receive_channels.proofs.laws.law_received_once.Goals as goal

pub returns : goal.returns
returns c = received-once
