use Rattle.std.proofs.Common.{◌≡◌, ◌∙◌, List, [], ◌∷◌, ◌++◌, take, ap, subst, sym}
use Rattle.std.proofs.lemmas.List.{take_more, take_all}
use Rattle.tick_columns.specs.declared.column.Column.{Column}
use Rattle.tick_columns.specs.inside.Joining.{IsWider}
use Rattle.tick_columns.proofs.Kept.{wider-next}
use Rattle.tick_columns.proofs.thinned.Thinned.join_all.Goals as goal

pub loop-column-preserved : goal.loop-column-preserved
loop-column-preserved g c ticks before is =
    let less = c.loop-column-test.true in
    wider-next g.T.Timed.time ticks before (take c.loop-column.column-index c.args.columns.now) _ c.column-item.result
    c.loop-column.self c.join.new.self
    (take_more c.args.columns.now c.loop-column.column-index c.column-item.result less
    ∙ ap (λ (x : Column g.row.T.Denot). take c.loop-column.column-index c.args.columns.now ++ x ∷ []) (sym c.column-item.is))
    (c.loop-column.invariant ticks before is) c.in_ok-join.ensures.joined

pub returns : goal.returns
returns g c ticks before is =
    subst (λ (cs : List (Column g.row.T.Denot)). IsWider g.T.Timed.time ticks (before ++ cs) c.loop-column.self)
    (take_all c.loop-column.column-index c.args.columns.now c.loop-column-test.false)
    (c.loop-column.invariant ticks before is)
