use Rattle.worker_races.proofs.weaving.ProtectedPart.{woven-protected}
use Rattle.worker_races.proofs.merge.logs.law_frames_of_a_woven_part_are_protected.Goals as goal

pub returns : goal.returns
returns c = woven-protected
