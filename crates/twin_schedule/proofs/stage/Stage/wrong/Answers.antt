use Rattle.std.proofs.Common.{ap, ◌∙◌}
use Rattle.std.specs.Prelude.{not}
use Rattle.cak_roll.specs.Twin.{takes_part}
use Rattle.twin_schedule.specs.Kinds.{group_of}
use Rattle.twin_schedule.specs.World.{has_adopted, pair_of}
use Rattle.twin_schedule.proofs.Refusing.{unknown-or}
use Rattle.twin_schedule.proofs.stage.Stage.wrong.Goals as goal

pub returns-in-Adopt : goal.returns-in-Adopt
returns-in-Adopt c = λ w reached.
    rw c.in-Adopt.is (unknown-or c.in-Adopt.name (λ s. has_adopted s w.run) w c.args.self.now
    c.place.result _ _ _ c.has_adopted.result c.or.ensures c.unknown.ensures c.order_where.ensures
    (c.has_adopted.ensures w reached.stands) c.place.ensures reached)

pub returns-in-Leave : goal.returns-in-Leave
returns-in-Leave c = λ w reached.
    rw c.in-Leave.is (unknown-or c.in-Leave.name
    (λ s. not (takes_part (group_of c.in-Leave.group) s w.run)) w c.args.self.now
    c.place-in-Leave.result _ _ _ _ c.or-in-Leave.ensures c.unknown-in-Leave.ensures
    c.order_where-in-Leave.ensures
    (ap not (c.takes_part.ensures (pair_of w) w.kept.users w.run reached.stands.twin
    ∙ ap (λ g. takes_part g c.place-in-Leave.result w.run) c.group_of.ensures))
    c.place-in-Leave.ensures reached)
