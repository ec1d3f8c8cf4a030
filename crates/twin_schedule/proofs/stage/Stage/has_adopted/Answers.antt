use Rattle.std.proofs.Common.{ap, ◌∙◌}
use Rattle.std.specs.Prelude.{◌==◌}
use Rattle.std.specs.List.{list_any}
use Rattle.twin_schedule.specs.World.{pair_of}
use Rattle.twin_schedule.proofs.stage.Stage.has_adopted.Goals as goal

pub returns : goal.returns
returns c = λ w stands.
    c.contains.ensures ∙ ap (λ l. list_any (λ u. u == c.args.station) l)
    (c.adopters.ensures (pair_of w) w.kept.users w.run stands.twin)
