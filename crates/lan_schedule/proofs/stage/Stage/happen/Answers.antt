use Rattle.std.proofs.Common.{refl, subst}
use Rattle.lan_core.specs.Answers.{IsWhy}
use Rattle.lan_core.specs.Stops.{first_stop}
use Rattle.trace_acts.specs.Supply.{supply_nth}
use Rattle.lan_schedule.specs.Ends.{moment}
use Rattle.lan_schedule.proofs.Happening.{event-did, event-stopped, event-wanting}
use Rattle.lan_schedule.proofs.Recorded.{seats-kept}
use Rattle.lan_schedule.proofs.stage.Stage.happen.Goals as goal

pub returns-in-Err-Stopped : goal.returns-in-Err-Stopped
returns-in-Err-Stopped g c =
    rw (c.halt_of.ensures, c.in-Err-Stopped.field-0-is) (event-stopped _ c.args.event.now c.in-Err-Stopped.stop
    c.args.self.now.line (moment c.args.self.now c.args.outlet.now) _
    (λ settings users r stands may.
    subst (IsWhy (first_stop settings users r c.args.event.now (supply_nth c.args.self.now.draws)))
    c.in-Err-Stopped.field-0-is (c.in-Err-Stopped.ensures.refused settings users r stands may))
    refl refl refl refl refl c.in-Err-Stopped.ensures.shown.1)

pub returns-in-Err-Memory : goal.returns-in-Err-Memory
returns-in-Err-Memory g c = event-wanting _ c.args.event.now _ _ refl refl (seats-kept _) (λ emits. refl)

pub returns : goal.returns
returns g c =
    event-did _ c.args.event.now c.in-Ok.facts _ (moment c.args.self.now c.args.outlet.now) _ _
    (λ settings users r stands may. record {
      goes = c.in-Ok.ensures.goes settings users r stands may;
      shows = c.in-Ok.ensures.facts settings users r stands may;
      stands = c.in-Ok.ensures.stands settings users r stands may;
      drawn = c.in-Ok.ensures.drawn settings users r stands may;
    })
    (c.go_on.ensures c.args.self.now (record { same = refl; epoch = c.epoch-before.ensures }))
