use Rattle.std.proofs.Common.{arith, refl}
use Rattle.std.proofs.lemmas.Option.{slice_get_read}
use Rattle.key_spans.proofs.Leaving.{passed-here, passed-nowhere}
use Rattle.key_spans.proofs.seats.Seats.pass.Goals as goal

pub returns-in_default : goal.returns-in_default
returns-in_default c =
    passed-nowhere c.args.self.now c.self.inside.clock c.self.inside.seats.items c.args.place c.self.view_is
    (λ less. cc (c.in_default.ensures.variant.1 (omega (arith, less))))

pub returns : goal.returns
returns c =
    let xs = c.self.inside.seats.items in
    let less = c.in-Some.ensures.variant.0 refl in
    let found = slice_get_read xs _ c.args.place c.in-Some.seat.now refl (omega (arith, less)) c.in-Some.ensures.value in
    passed-here c.args.self.now c.self.inside.clock xs c.args.place c.in-Some.seat.now c.pass_seat.new.seat c.self.view_is
    found c.pass_seat.ensures
