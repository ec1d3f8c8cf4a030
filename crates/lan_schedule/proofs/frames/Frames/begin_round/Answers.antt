use Rattle.std.proofs.Common.{arith}
use Rattle.lan_schedule.proofs.Flowing.{order-later}
use Rattle.lan_schedule.proofs.frames.Frames.begin_round.Goals as goal

pub invariant_of-self : goal.invariant_of-self
invariant_of-self c =
    let counts = c.saturating_add-self-inside.ensures in
    let small = c.before.before.self.ranges in (
      c.self.invariant.0,
      order-later c.self.inside.rounds c.saturating_add-self-inside.result c.self.inside.frames.items
          (omega arith) c.self.invariant.1,
    )
