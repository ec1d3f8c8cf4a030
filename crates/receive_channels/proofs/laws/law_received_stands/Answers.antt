use Rattle.receive_channels.proofs.Members.{contains-in}
use Rattle.receive_channels.proofs.Received.{has-channel, stands}
use Rattle.receive_channels.specs.Histories.{made}
use Rattle.receive_channels.proofs.laws.law_received_stands.Goals as goal
use Rattle.std.specs.Prelude.{◌∷◌}

pub returns : goal.returns
returns c = λ step h r steady i held.
    has-channel (step ∷ h) r (stands (step ∷ h) r steady (contains-in (made (step ∷ h)) r i) held)
