use Rattle.std.proofs.lemmas.Slice.Eq.{slice_eq-Decides}
use Rattle.receive_channels.proofs.Equal.{channel-decides}
use Rattle.receive_channels.proofs.next.same_channels.Goals as goal

pub returns : goal.returns
returns c = (slice_eq-Decides channel-decides _ _ _ c.eq.ensures).0
