use Rattle.std.proofs.Common.{refl, ap, ◌∙◌}
use Rattle.twin_schedule.specs.World.{joined, sender}
use Rattle.twin_schedule.specs.Acts.{each}
use Rattle.twin_schedule.specs.Lines.{pass}
use Rattle.twin_schedule.proofs.Doing.{look-does, memory-any}
use Rattle.twin_schedule.proofs.stage.Stage.spread.Goals as goal

pub returns-in_err-lay_joined : goal.returns-in_err-lay_joined
returns-in_err-lay_joined g c = memory-any _ _ _ _ refl refl c.from_residual.ensures.1

pub returns : goal.returns
returns g c =
    look-does (λ w. each (pass c.args.group c.args.frame (sender c.args.group c.args.frame w.run))
    (joined c.args.group w.run))
    (each (pass c.args.group c.args.frame c.sender-from.result) c.lay_joined.new.room.items)
    _ _ _
    (λ w reached.
    ap (λ from. each (pass c.args.group c.args.frame from) c.lay_joined.new.room.items)
    (c.sender-from.ensures w reached.stands)
    ∙ ap (λ l. each (pass c.args.group c.args.frame (sender c.args.group c.args.frame w.run)) l)
    (c.in_ok-lay_joined.ensures w reached))
    (rw c.deref.ensures.value at c.pass_to.ensures)
