use Rattle.std.proofs.Common.{length}
use Rattle.mkpdu_codec.proofs.Loops.{EntriesSoFar}
use Rattle.mkpdu_codec.proofs.peer_list.read_entries.Given as goal

abbrev pub invariant-loop-peer : goal.invariant-loop-peer
invariant-loop-peer l = EntriesSoFar l.peers l.rest l.fn.octets

abbrev pub decreases-loop-peer : goal.decreases-loop-peer
decreases-loop-peer l = length l.rest
