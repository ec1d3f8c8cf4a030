use Rattle.std.proofs.Common.{refl}
use Rattle.lan_core.specs.declared.event.Event.TheVariants.{Inject}
use Rattle.lan_schedule.proofs.Happening.{plainly}
use Rattle.lan_schedule.proofs.stage.Stage.inject.Goals as goal

pub returns : goal.returns
returns g c =
    plainly (Inject c.args.station c.args.octets) _ _ _ (λ w. refl)
    (λ raced racing settings run cs says. says)
    (λ settings run. tt) c.happen.ensures
