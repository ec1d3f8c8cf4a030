use Rattle.cak_roll.specs.declared.event.TwinEvent.TheVariants.{Leave}
use Rattle.twin_schedule.proofs.Happening.{plainly}
use Rattle.twin_schedule.proofs.stage.Stage.leave.Goals as goal

pub returns : goal.returns
returns g c = plainly (Leave c.args.station c.args.group) _ _ _ (λ users. tt) c.happen.ensures
