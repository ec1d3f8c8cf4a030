use Rattle.std.proofs.Common.{◌∙◌, ℕ, List, [], Err, sym, subst}
use Rattle.std.proofs.lemmas.Result.{err_from_is_err_and}
use Rattle.octet_supply.specs.Supplying.{Held, Stands}
use Rattle.octet_supply.proofs.Public.{stands-new}
use Rattle.lan_base.specs.Ranges.{most_input}
use Rattle.packet_lines.specs.inside.Reading.{GivesOrder}
use Rattle.packet_lines.proofs.Steps.{opens-err, opens-ok, opens-refused}
use Rattle.packet_lines.proofs.reader.PacketReader.open.Goals as goal

pub returns-in_err-take-clause-opens : goal.returns-in_err-take-clause-opens
returns-in_err-take-clause-opens g c = λ text told.
    let s = subst (λ (h : Held). Stands most_input text [] h (g.S.Source.left c.args.source.now)) (sym c.new-supply.ensures)
    (stands-new most_input text _ told) in
    let t = c.in_err-take.ensures.takes most_input text [] s in
    let p = err_from_is_err_and c.from_residual.result c.from_residual.ensures.1 in
    rw (p.1, p.2) (opens-err text c.new-octets.result.items c.take.new.into.items c.take.new.self _ c.in_err-take.field-0.0 t)

pub returns-in_err-order-clause-opens : goal.returns-in_err-order-clause-opens
returns-in_err-order-clause-opens g c = λ text told.
    let s = subst (λ (h : Held). Stands most_input text [] h (g.S.Source.left c.args.source.now)) (sym c.new-supply.ensures)
    (stands-new most_input text _ told) in
    let t = c.in_ok-take.ensures.takes most_input text [] s in
    let p = err_from_is_err_and c.from_residual-in_err-order.result c.from_residual-in_err-order.ensures.1 in
    let o = subst (λ (l : List ℕ). GivesOrder l (Err c.in_err-order.field-0.0)) c.deref.ensures.value c.in_err-order.ensures in
    rw (p.1, p.2) (opens-refused text c.take.new.into.items c.take.new.self _ c.in_err-order.field-0.0
    (rw c.new-octets.ensures.items at t) o)

pub returns-clause-opens : goal.returns-clause-opens
returns-clause-opens g c = λ text told.
    let s = subst (λ (h : Held). Stands most_input text [] h (g.S.Source.left c.args.source.now)) (sym c.new-supply.ensures)
    (stands-new most_input text _ told) in
    let t = c.in_ok-take.ensures.takes most_input text [] s in
    let o = c.in_ok-order.ensures in
    opens-ok text c.take.new.into.items c.take.new.self _ c.in_ok-order.order
    (rw c.new-octets.ensures.items at t) (rw c.deref.ensures.value at o)
