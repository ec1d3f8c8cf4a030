-- What was taken, and what the other events take.
use Rattle.std.proofs.Common.{◌≡◌, ◌++◌, drop}
use Rattle.worker_races.specs.merge.Taking.{frames_of}
use Rattle.worker_races.proofs.merge.taking.taken_frames.Given as goal

abbrev pub invariant-loop-event : goal.invariant-loop-event
invariant-loop-event l =
    l.frames.items ++ frames_of (drop l.event-index l.events) l.rests.items
    ≡ frames_of l.events l.initial.rests.items
