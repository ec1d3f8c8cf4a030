use Rattle.receive_channels.proofs.Members.{contains-in, in-contains}
use Rattle.receive_channels.proofs.Received.{comes-at, has-channel, made-key, made-sci, stands-now}
use Rattle.receive_channels.specs.Histories.{key_of, made_at}
use Rattle.receive_channels.proofs.laws.law_made_in_a_channel.Goals as goal
use Rattle.std.specs.Prelude.{◌∷◌}

pub returns-clause-key : goal.returns-clause-key
returns-clause-key c = λ step h r made.
    in-contains step.keys (key_of r) (made-key step h r (comes-at step h r (contains-in (made_at step h) r made)))

pub returns-clause-sci : goal.returns-clause-sci
returns-clause-sci c = λ step h r made.
    made-sci step h r (comes-at step h r (contains-in (made_at step h) r made))

pub returns-clause-channel : goal.returns-clause-channel
returns-clause-channel c = λ step h r made.
    has-channel (step ∷ h) r (stands-now step h r (comes-at step h r (contains-in (made_at step h) r made)))
