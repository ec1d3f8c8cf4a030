use Rattle.tick_columns.proofs.Kept.{added-by}
use Rattle.tick_columns.proofs.thinned.Thinned.add.Goals as goal

pub returns-clause-added : goal.returns-clause-added
returns-clause-added g c items is late =
    added-by g.T.Timed.time c.make_room.new.self c.join.new.self items c.args.item c.join.result
    (c.make_room.ensures.same items is) c.in_ok-make_room.ensures.room late c.join.ensures.joined
