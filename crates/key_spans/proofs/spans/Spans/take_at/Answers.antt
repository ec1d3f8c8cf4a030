use Rattle.std.proofs.Common.{arith, refl}
use Rattle.std.proofs.lemmas.Option.{slice_get_read}
use Rattle.key_spans.proofs.Rows.{taken-at}
use Rattle.key_spans.proofs.spans.Spans.take_at.Goals as goal

pub returns : goal.returns
returns c =
    let xs = c.self.inside.lanes.items in
    let less = c.in-Some.ensures.variant.0 refl in
    let found = slice_get_read xs _ c.place.result c.in-Some.lane.now refl (omega (arith, less)) c.in-Some.ensures.value in
    taken-at c.args.fact.now c.args.self.now c.self.inside.clock c.place.result xs c.in-Some.lane.now c.take.new.self
    c.take.result c.self.view_is c.place.ensures found c.take.ensures.taken c.take.ensures.kept
