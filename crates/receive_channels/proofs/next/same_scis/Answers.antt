use Rattle.std.proofs.lemmas.Slice.Eq.{slice_eq-Decides}
use Rattle.receive_channels.proofs.Equal.{sci-decides}
use Rattle.receive_channels.proofs.next.same_scis.Goals as goal

pub returns : goal.returns
returns c = (slice_eq-Decides sci-decides _ _ _ c.eq.ensures).0
