use Rattle.twin_schedule.proofs.Told.{adopted-none}
use Rattle.twin_schedule.proofs.telling.admit.Goals as goal

pub returns-in_default-get-clause-second : goal.returns-in_default-get-clause-second
returns-in_default-get-clause-second c =
    adopted-none c.args.first.now.items c.deref.result.now c.args.second.now.items c.args.event.now
    c.in-Adopt.station c.from.result c.in-Adopt.is c.from.ensures c.deref.ensures.value
    c.in_default-get.ensures.lookup.0
