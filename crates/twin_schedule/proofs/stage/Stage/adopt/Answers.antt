use Rattle.cak_roll.specs.declared.event.TwinEvent.TheVariants.{Adopt}
use Rattle.twin_schedule.proofs.Happening.{plainly}
use Rattle.twin_schedule.proofs.stage.Stage.adopt.Goals as goal

pub returns : goal.returns
returns g c = plainly (Adopt c.args.station) _ _ _ (λ users. tt) c.happen.ensures
