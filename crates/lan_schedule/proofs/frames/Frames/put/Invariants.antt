use Rattle.std.proofs.Common.{◌≡◌, ◌++◌, take}
use Rattle.lan_schedule.specs.World.{puts}
use Rattle.lan_schedule.proofs.frames.Frames.put.Given as goal

abbrev pub invariant-loop-fact : goal.invariant-loop-fact
invariant-loop-fact l =
    l.self ≡ record {
      frames = l.fn.self.frames
          ++ puts l.fn.self.rounds (take l.fact-index l.facts);
      rounds = l.fn.self.rounds;
    }
