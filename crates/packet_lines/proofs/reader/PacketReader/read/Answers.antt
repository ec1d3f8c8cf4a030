use Rattle.std.proofs.Common.{◌∙◌, ◌++◌, ℕ, List, Err, ap, subst, arith, length}
use Rattle.std.proofs.lemmas.Result.{err_from_is_err_and}
use Rattle.lan_base.specs.Ranges.{most_input}
use Rattle.packet_lines.specs.inside.Reading.{GivesCount}
use Rattle.octet_supply.proofs.Public.{no-octets}
use Rattle.packet_lines.proofs.Steps.{at-whole, header-err, header-whole, next-refused, packet-err, packet-short, packet-whole}
use Rattle.packet_lines.proofs.reader.PacketReader.read.Goals as goal

pub returns-in_err-take-clause-reads : goal.returns-in_err-take-clause-reads
returns-in_err-take-clause-reads g c = λ text given s.
    let t = c.in_err-take.ensures.takes most_input text given s in
    let p = err_from_is_err_and c.from_residual.result c.from_residual.ensures.1 in
    rw (p.1, p.2) (header-err text given c.clear.new.self.items c.take.new.into.items c.take.new.into.items
    c.args.self.now.order c.take.new.self c.take.new.self _ c.in_err-take.field-0.0 t)

pub returns-then-is_empty-clause-reads : goal.returns-then-is_empty-clause-reads
returns-then-is_empty-clause-reads g c = λ text given s.
    let t = c.in_ok-take.ensures.takes most_input text given s in
    at-whole text given c.take.new.into.items c.take.new.self _ (rw c.clear.ensures.items at t)
    (no-octets c.take.new.into.items (let o = c.take.new.into.ok in grind (arith, o, c.if-is_empty.ensures)))

pub returns-in_err-count-clause-reads : goal.returns-in_err-count-clause-reads
returns-in_err-count-clause-reads g c = λ text given s.
    let t = c.in_ok-take.ensures.takes most_input text given s in
    let p = err_from_is_err_and c.from_residual-in_err-count.result c.from_residual-in_err-count.ensures.1 in
    let k = subst (λ (l : List ℕ). GivesCount c.args.self.now.order c.given-at.result l (Err c.in_err-count.field-0.0))
    c.deref.ensures.value c.in_err-count.ensures in
    rw (p.1, p.2) (next-refused text given c.take.new.into.items c.take.new.into.items c.args.self.now.order
    _ c.take.new.self c.take.new.self _ c.in_err-count.field-0.0 (rw c.clear.ensures.items at t)
    (λ none. let o = c.take.new.into.ok in let l = ap length none in grind (arith, o, l, c.if-is_empty.ensures))
    (let a = c.given-at.ensures in let b = s.count in omega (arith, a, b))
    k)

pub returns-in_err-take-2-clause-reads : goal.returns-in_err-take-2-clause-reads
returns-in_err-take-2-clause-reads g c = λ text given s.
    let t = c.in_ok-take.ensures.takes most_input text given s in
    let k = c.in_ok-count.ensures in
    let count = rw c.deref.ensures.value at k in
    let h = header-whole text given c.take.new.into.items c.take.new.self _ (rw c.clear.ensures.items at t) count.0 in
    let u = c.in_err-take-2.ensures.takes most_input text (given ++ c.take.new.into.items) h.stands in
    let p = err_from_is_err_and c.from_residual-in_err-take-2.result c.from_residual-in_err-take-2.ensures.1 in
    rw (p.1, p.2) (packet-err text given c.take.new.into.items c.clear-2.new.self.items c.take-2.new.into.items
    c.take-2.new.into.items c.args.self.now.order c.in_ok-count.count c.take.new.self c.take-2.new.self c.take-2.new.self _ _
    c.in_err-take-2.field-0.0 h count.1 u)

pub returns-then-len-count-clause-reads : goal.returns-then-len-count-clause-reads
returns-then-len-count-clause-reads g c = λ text given s.
    let t = c.in_ok-take.ensures.takes most_input text given s in
    let k = c.in_ok-count.ensures in
    let count = rw c.deref.ensures.value at k in
    let h = header-whole text given c.take.new.into.items c.take.new.self _ (rw c.clear.ensures.items at t) count.0 in
    let u = c.in_ok-take-2.ensures.takes most_input text (given ++ c.take.new.into.items) h.stands in (
      (let a = c.given-at.ensures in let b = s.count in omega (arith, a, b)),
      packet-short text given c.take.new.into.items c.take-2.new.into.items c.args.self.now.order
          c.in_ok-count.count c.take.new.self c.take-2.new.self _ _ h count.1
          (rw c.clear-2.ensures.items at u)
          (let o = c.take-2.new.into.ok in omega (arith, o, c.if-len-count.true, c.len.ensures)),
    )

pub returns-clause-reads : goal.returns-clause-reads
returns-clause-reads g c = λ text given s.
    let t = c.in_ok-take.ensures.takes most_input text given s in
    let k = c.in_ok-count.ensures in
    let count = rw c.deref.ensures.value at k in
    let h = header-whole text given c.take.new.into.items c.take.new.self _ (rw c.clear.ensures.items at t) count.0 in
    let u = c.in_ok-take-2.ensures.takes most_input text (given ++ c.take.new.into.items) h.stands in
    packet-whole text given c.take.new.into.items c.take-2.new.into.items c.args.self.now.order
    c.in_ok-count.count c.take.new.self c.take-2.new.self _ _ h count.1
    (rw c.clear-2.ensures.items at u)
    (let o = c.take-2.new.into.ok in omega (arith, o, c.if-len-count.false, c.len.ensures))
