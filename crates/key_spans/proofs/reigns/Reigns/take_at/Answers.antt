use Rattle.std.proofs.Common.{arith, refl}
use Rattle.std.proofs.lemmas.Option.{slice_get_read}
use Rattle.key_spans.proofs.Ruling.{courts-here, courts-nowhere}
use Rattle.key_spans.proofs.reigns.Reigns.take_at.Goals as goal

pub returns-in_default-clause-courts : goal.returns-in_default-clause-courts
returns-in_default-clause-courts c =
    courts-nowhere c.args.fact.now c.args.self.now.clock.ticks c.place.result c.args.self.now c.self.inside.clock
    c.self.inside.courts.items c.self.view_is c.place.ensures
    (λ less. cc (c.in_default.ensures.variant.1 (omega (arith, less)))) c.requires

pub returns-clause-courts : goal.returns-clause-courts
returns-clause-courts c =
    let xs = c.self.inside.courts.items in
    let less = c.in-Some.ensures.variant.0 refl in
    let found = slice_get_read xs _ c.place.result c.in-Some.court.now refl (omega (arith, less)) c.in-Some.ensures.value in
    courts-here c.args.fact.now c.place.result c.args.self.now c.self.inside.clock xs c.in-Some.court.now c.take.new.self
    c.take.result c.self.view_is c.place.ensures found c.take.ensures
