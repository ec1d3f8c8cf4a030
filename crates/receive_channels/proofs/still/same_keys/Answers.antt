use Rattle.std.proofs.lemmas.Slice.Eq.{slice_eq-Decides}
use Rattle.receive_channels.proofs.Equal.{key-decides}
use Rattle.receive_channels.proofs.still.same_keys.Goals as goal

pub returns : goal.returns
returns c = (slice_eq-Decides key-decides _ _ _ c.eq.ensures).0
