use Rattle.key_spans.proofs.Lanes.{taken-whole}
use Rattle.key_spans.proofs.spans.Spans.take_in.Goals as goal

pub returns-clause-taken : goal.returns-clause-taken
returns-clause-taken c =
    taken-whole c.args.fact.now c.args.self.now c.make_place.new.self c.take_at.new.self c.tick.new.self
    c.make_place.ensures.same c.in_ok-make_place.ensures.there c.in_ok-take_at.ensures c.tick.ensures.clock
    c.tick.ensures.lanes
