use Rattle.std.proofs.Common.{refl}
use Rattle.lan_schedule.proofs.Flowing.{marked-end, order-end}
use Rattle.lan_schedule.proofs.frames.Frames.put_one.Goals as goal

pub invariant_of-self : goal.invariant_of-self
invariant_of-self c =
    rw (c.in_ok-push.ensures.items)
    (marked-end _ _ _ c.self.invariant.0, order-end _ _ _ refl c.self.invariant.1)
