use Rattle.std.proofs.Common.{◌≡◌, ◌++◌, drop}
use Rattle.lan_schedule.specs.Lines.{due_of}
use Rattle.lan_schedule.proofs.frames.Frames.waiting.Given as goal

abbrev pub invariant-loop-place : goal.invariant-loop-place
invariant-loop-place l =
    due_of l.lag l.self.rounds l.self.frames ≡ l.numbers.items
    ++ due_of l.lag l.self.rounds (drop l.place l.self.frames)
