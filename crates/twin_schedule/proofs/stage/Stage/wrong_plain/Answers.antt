use Rattle.std.proofs.Common.{inl, inr}
use Rattle.twin_schedule.specs.World.{is_out}
use Rattle.twin_schedule.proofs.Refusing.{taken-is, two-unknown, unknown-or}
use Rattle.twin_schedule.proofs.stage.Stage.wrong_plain.Goals as goal

pub returns-in-Station : goal.returns-in-Station
returns-in-Station c = λ w reached.
    rw c.in-Station.is (taken-is c.in-Station.name c.in-Station.sci w c.args.self.now _
    c.taken.ensures reached.stands)

pub returns-in-Send : goal.returns-in-Send
returns-in-Send c = λ w reached.
    rw c.in-Send.is (unknown-or c.in-Send.name (λ s. is_out s w.run) w c.args.self.now
    c.place.result _ _ _ c.is_out.result c.or.ensures c.unknown.ensures c.order_where.ensures
    (c.is_out.ensures w reached.stands) c.place.ensures reached)

pub returns-in-Cut : goal.returns-in-Cut
returns-in-Cut c = λ w reached.
    let unknown = two-unknown c.in-Cut.from c.in-Cut.to w c.args.self.now _ _ _ c.or-in-Cut.ensures
    c.unknown-in-Cut.ensures c.unknown-in-Cut-2.ensures reached.stands in
    elim c.in-Cut.is [ inl is ↦ rw is unknown | inr is ↦ rw is unknown ]
