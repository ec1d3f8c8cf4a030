use Rattle.std.proofs.Common.{◌≡◌, nat_eq, ◌∙◌, arith}
use Rattle.std.specs.Cmp.Lexicographic.{pointwise}
use Rattle.std.specs.List.{position_or_len}
use Rattle.trace_acts.proofs.Public.{place-within}
use Rattle.twin_schedule.proofs.stage.Stage.place.Goals as goal

pub returns : goal.returns
returns c = λ few.
    let is : c.position.result ≡ position_or_len (pointwise nat_eq c.args.name.now)
    c.args.self.now.first.names.items =
    rw c.deref.ensures.value at c.position.ensures in
    let within = place-within (pointwise nat_eq c.args.name.now) c.args.self.now.first.names.items
    in
    c.octet_of.ensures (omega arith) ∙ is
