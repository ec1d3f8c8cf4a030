use Rattle.std.proofs.Common.{length, ◌≤◌}
use Rattle.mkpdu_codec.specs.inside.Views.{gathered_of}
use Rattle.mkpdu_codec.proofs.Loops.{GatheredSoFar}
use Rattle.mkpdu_codec.proofs.found.read_found.Given as goal

abbrev pub invariant-loop-rest : goal.invariant-loop-rest
invariant-loop-rest l = (length l.rest ≤ l.end) × GatheredSoFar l.end (gathered_of l.found) l.rest l.fn.octets

abbrev pub decreases-loop-rest : goal.decreases-loop-rest
decreases-loop-rest l = length l.rest
