use Rattle.key_spans.proofs.Leaving.{seats-taken}
use Rattle.key_spans.proofs.seats.Seats.take.Goals as goal

pub returns-clause-taken : goal.returns-clause-taken
returns-clause-taken c facts are =
    seats-taken facts c.args.fact.now c.args.self.now c.make_place.new.self c.settle-2.new.self c.settle.inside.clock
    c.after.result c.settle.inside.seats.items are c.make_place.ensures.same c.settle.view_is c.after.ensures
    c.settle-2.ensures.clock c.settle-2.ensures.seats
