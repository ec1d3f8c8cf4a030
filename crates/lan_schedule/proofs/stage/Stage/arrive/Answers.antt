use Rattle.std.specs.Prelude.{IfSome}
use Rattle.lan_core.specs.declared.event.Event.TheVariants.{Deliver}
use Rattle.lan_core.specs.Batches.{IsChecked}
use Rattle.lan_schedule.specs.Acts.{happen}
use Rattle.lan_schedule.proofs.Batching.{did-where}
use Rattle.lan_schedule.proofs.stage.Stage.arrive.Goals as goal

pub returns-in-Some : goal.returns-in-Some
returns-in-Some g c = rw c.in-Some.is c.admit.ensures

pub returns-in-None : goal.returns-in-None
returns-in-None g c =
    did-where (λ w. IfSome c.args.checked (IsChecked w.run c.args.number c.args.station))
    (happen (Deliver c.args.number c.args.station)) _ _ _ c.deliver.ensures
