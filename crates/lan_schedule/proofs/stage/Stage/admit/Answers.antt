use Rattle.std.proofs.Common.{refl, subst}
use Rattle.lan_core.specs.declared.event.Event.TheVariants.{Deliver}
use Rattle.lan_core.specs.Answers.{IsWhy}
use Rattle.lan_core.specs.Stops.{first_stop}
use Rattle.lan_core.specs.Batches.{IsChecked}
use Rattle.trace_acts.specs.Supply.{supply_nth}
use Rattle.lan_schedule.specs.Acts.{happen}
use Rattle.lan_schedule.specs.Ends.{moment}
use Rattle.lan_schedule.proofs.Doing.{memory-does}
use Rattle.lan_schedule.proofs.Batching.{did-where}
use Rattle.lan_schedule.proofs.Happening.{admit-did, admit-stopped}
use Rattle.lan_schedule.proofs.Recorded.{seats-kept}
use Rattle.lan_schedule.proofs.stage.Stage.admit.Goals as goal

pub returns-in-Err-Stopped : goal.returns-in-Err-Stopped
returns-in-Err-Stopped g c =
    rw (c.halt_of.ensures, c.in-Err-Stopped.field-0-is) (admit-stopped c.args.frame c.args.station
    c.args.checked c.in-Err-Stopped.stop c.args.self.now.line
    (moment c.args.self.now c.args.outlet.now) _
    (λ settings users r stands checked.
    subst (IsWhy (first_stop settings users r (Deliver c.args.frame c.args.station)
    (supply_nth c.args.self.now.draws))) c.in-Err-Stopped.field-0-is
    (c.in-Err-Stopped.ensures.answers settings users r (supply_nth c.args.self.now.draws) stands
    checked)) refl refl refl refl refl c.in-Err-Stopped.ensures.shown.1)

pub returns-in-Err-Memory : goal.returns-in-Err-Memory
returns-in-Err-Memory g c =
    did-where (λ w. IsChecked w.run c.args.frame c.args.station c.args.checked)
    (happen (Deliver c.args.frame c.args.station)) _ _ _
    (memory-does _ _ _ refl refl (seats-kept _))

pub returns : goal.returns
returns g c =
    admit-did c.args.frame c.args.station c.args.checked c.in-Ok.facts _
    (moment c.args.self.now c.args.outlet.now) _ _
    (λ settings users r stands checked. c.in-Ok.ensures.answers settings users r
    (supply_nth c.args.self.now.draws) stands checked)
    (c.go_on.ensures c.args.self.now (record { same = refl; epoch = c.epoch-before.ensures }))
