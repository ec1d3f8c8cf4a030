use Rattle.std.proofs.Common.{sym, ◌∙◌}
use Rattle.cak_roll.specs.declared.event.TwinEvent.TheVariants.{Restart}
use Rattle.twin_schedule.specs.Acts.{happen}
use Rattle.twin_schedule.specs.World.{is_out}
use Rattle.twin_schedule.proofs.Doing.{unless-does, unless-skips}
use Rattle.twin_schedule.proofs.Happening.{plainly}
use Rattle.twin_schedule.proofs.stage.Stage.restart.Goals as goal

pub returns-then-is_out : goal.returns-then-is_out
returns-then-is_out g c =
    unless-skips (λ w. is_out c.args.station w.run) (λ w. happen (Restart c.args.station)) _
    (λ w stands. sym (c.is_out.ensures w stands) ∙ c.if-is_out.true)

pub returns : goal.returns
returns g c =
    unless-does (λ w. is_out c.args.station w.run) (happen (Restart c.args.station)) _ _ _
    (λ w stands. sym (c.is_out.ensures w stands) ∙ c.if-is_out.false)
    (plainly (Restart c.args.station) _ _ _ (λ users. tt) c.happen.ensures)
