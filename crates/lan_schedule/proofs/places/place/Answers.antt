use Rattle.std.proofs.Common.{nat_eq, ◌∙◌, arith}
use Rattle.std.specs.Cmp.Lexicographic.{pointwise}
use Rattle.trace_acts.proofs.Public.{place-within}
use Rattle.lan_schedule.proofs.places.place.Goals as goal

pub returns : goal.returns
returns c = λ few.
    let within = place-within (pointwise nat_eq c.args.name.now) c.args.names.now in
    let is = c.position.ensures in
    c.octet_of.ensures (omega arith) ∙ is
