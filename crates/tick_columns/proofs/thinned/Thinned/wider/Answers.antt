use Rattle.std.proofs.Common.{[]}
use Rattle.tick_columns.proofs.Kept.{wider-parts, wider-whole}
use Rattle.tick_columns.proofs.thinned.Thinned.wider.Goals as goal

pub returns : goal.returns
returns g c =
    wider-whole g.T.Timed.time c.args.self.now _
    (wider-parts g.T.Timed.time c.args.self.now.ticks c.earlier.result.now c.args.self.now.earlier c.latest.result
    c.args.self.now.latest _ c.earlier.ensures c.latest.ensures
    (c.in_ok-join_any.ensures c.args.self.now.ticks c.earlier.result.now
    (c.in_ok-join_all.ensures c.args.self.now.ticks [] c.in_ok-wider.ensures)))
