use Rattle.tick_columns.proofs.Kept.{wider-join}
use Rattle.tick_columns.proofs.thinned.Thinned.join_any.Goals as goal

pub returns-in-Some : goal.returns-in-Some
returns-in-Some g c ticks before is =
    wider-join g.T.Timed.time ticks before c.in-Some.column c.args.column c.args.self.now c.join.new.self c.join.result
    c.in-Some.is is c.join.ensures.joined
