use Rattle.tick_columns.specs.inside.Joining.{IsWidened}
use Rattle.tick_columns.proofs.thinned.Thinned.make_room.Given as goal

abbrev pub invariant-loop : goal.invariant-loop
invariant-loop g l = IsWidened g.T.Timed.time l.fn.self l.self
