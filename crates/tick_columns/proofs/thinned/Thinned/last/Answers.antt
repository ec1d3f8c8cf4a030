use Rattle.std.proofs.Common.{◌≡◌, Some, subst}
use Rattle.tick_columns.specs.Columns.{Columns}
use Rattle.tick_columns.proofs.Kept.{last-of}
use Rattle.tick_columns.proofs.thinned.Thinned.last.Goals as goal

pub returns-in-Some : goal.returns-in-Some
returns-in-Some g c items is =
    last-of g.T.Timed.time c.args.self.now.ticks items c.args.self.now.earlier c.args.self.now.latest c.in-Some.column
    (subst (λ (k : Columns g.row.T.Denot). k.latest ≡ Some c.in-Some.column) c.self.view_is c.in-Some.is) is.columns_are
