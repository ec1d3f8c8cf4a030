use Rattle.std.proofs.Common.{◌≡◌, ◌-◌, vec_len}
use Rattle.lan_schedule.specs.inside.Frames.{AreMarked, AreInOrder}
use Rattle.lan_schedule.proofs.frames.Frames.pass_marked.Given as goal

abbrev pub invariant-loop-self : goal.invariant-loop-self
invariant-loop-self l = record {
  frames : l.self-inside.frames ≡ l.initial.self-inside.frames;
  rounds : l.self-inside.rounds ≡ l.initial.self-inside.rounds;
  marked : AreMarked l.self-inside.first l.self-inside.frames.items;
  ordered : AreInOrder l.self-inside.rounds l.self-inside.frames.items;
}

abbrev pub decreases-loop-self : goal.decreases-loop-self
decreases-loop-self l = vec_len l.initial.self-inside.frames - l.self-inside.first
