use Rattle.std.proofs.Common.{ℕ, List, Err, Ok, ap, arith, subst, ◌∙◌, ◌+◌, refl, sym}
use Rattle.std.proofs.lemmas.Result.{err_from_is_err_and}
use Rattle.lan_base.specs.Ranges.{most_input}
use Rattle.octet_supply.specs.declared.supply.LineEnd.{LineEnd}
use Rattle.audit_text.specs.declared.parting.Part.{Part}
use Rattle.audit_text.specs.declared.parting.Part.TheVariants as parts
use Rattle.key_ring.specs.inside.Steps.{AddsLine}
use Rattle.key_ring.proofs.Steps.{after-line, ahead, at-capture, at-capture-line, at-end, at-last, at-refused, visible}
use Rattle.key_ring.proofs.ring.KeyRing.read_lines.Goals as goal

pub returns-in_err-end-clause-reads : goal.returns-in_err-end-clause-reads
returns-in_err-end-clause-reads g c = λ text none s.
    let left = g.S.Source.left c.loop-line.source in
    let h = c.loop-line.invariant.read text none s in
    let p = err_from_is_err_and c.from_residual.result c.from_residual.ensures.1 in
    rw (p.1, p.2) (at-end text c.loop-line.number c.loop-line.self c.loop-line.supply c.next_part.new.supply left _
    c.next_part.new.line.items c.in_err-end.field-0.0 h
    (c.in_err-end.ensures.parts most_input text h.given
    (ahead text c.loop-line.number c.loop-line.self c.loop-line.supply left h) h.stands
    (visible text c.loop-line.number c.loop-line.self c.loop-line.supply left h)))

pub returns-in_default-clause-reads : goal.returns-in_default-clause-reads
returns-in_default-clause-reads g c = λ text none s.
    let left = g.S.Source.left c.loop-line.source in
    let h = c.loop-line.invariant.read text none s in
    let p = c.in_ok-end.ensures.parts most_input text h.given
    (ahead text c.loop-line.number c.loop-line.self c.loop-line.supply left h) h.stands
    (visible text c.loop-line.number c.loop-line.self c.loop-line.supply left h) in
    at-capture text c.loop-line.number c.loop-line.self c.loop-line.supply c.next_part.new.supply left _
    c.next_part.new.line.items h (rw c.in_default.is at p)

pub returns-in_err-ends-clause-reads : goal.returns-in_err-ends-clause-reads
returns-in_err-ends-clause-reads g c = λ text none s.
    let left = g.S.Source.left c.loop-line.source in
    let h = c.loop-line.invariant.read text none s in
    let t = c.in_ok-end.ensures.parts most_input text h.given
    (ahead text c.loop-line.number c.loop-line.self c.loop-line.supply left h) h.stands
    (visible text c.loop-line.number c.loop-line.self c.loop-line.supply left h) in
    let p = err_from_is_err_and c.from_residual-in_err-ends.result c.from_residual-in_err-ends.ensures.1 in
    rw (p.1, p.2) (at-refused text c.loop-line.number (c.loop-line.number + 1) c.loop-line.self c.add_line.new.self
    c.loop-line.supply c.next_part.new.supply left _ c.next_part.new.line.items c.in-Line.end _ h
    (rw c.in-Line.is at t) refl (subst (λ (l : List ℕ). AddsLine (c.loop-line.number + 1) l c.loop-line.self c.add_line.new.self
    (Err c.in_err-ends.field-0.0)) c.deref.ensures.value c.in_err-ends.ensures.adds))

pub returns-in_default-end-clause-reads : goal.returns-in_default-end-clause-reads
returns-in_default-end-clause-reads g c = λ text none s.
    let left = g.S.Source.left c.loop-line.source in
    let h = c.loop-line.invariant.read text none s in
    let t = c.in_ok-end.ensures.parts most_input text h.given
    (ahead text c.loop-line.number c.loop-line.self c.loop-line.supply left h) h.stands
    (visible text c.loop-line.number c.loop-line.self c.loop-line.supply left h) in
    at-last text c.loop-line.number (c.loop-line.number + 1) c.loop-line.self c.add_line.new.self
    c.loop-line.supply c.next_part.new.supply left _ c.next_part.new.line.items c.in-Line.end h
    (rw c.in-Line.is at t) c.in_default-end.not-Feed refl (rw c.deref.ensures.value at c.in_ok-ends.ensures.adds).0

pub returns-then-ends-clause-reads : goal.returns-then-ends-clause-reads
returns-then-ends-clause-reads g c = λ text none s.
    let left = g.S.Source.left c.loop-line.source in
    let h = c.loop-line.invariant.read text none s in
    let t = c.in_ok-end.ensures.parts most_input text h.given
    (ahead text c.loop-line.number c.loop-line.self c.loop-line.supply left h) h.stands
    (visible text c.loop-line.number c.loop-line.self c.loop-line.supply left h) in
    let said = rw c.deref.ensures.value at c.in_ok-ends.ensures.adds in
    at-capture-line text c.loop-line.number (c.loop-line.number + 1) c.loop-line.self c.add_line.new.self
    c.loop-line.supply c.next_part.new.supply left _ c.next_part.new.line.items h
    (rw (c.in-Line.is, c.in-Feed.is) at t) refl said.0 (sym said.1 ∙ c.if-ends.true)

pub loop-line-preserved : goal.loop-line-preserved
loop-line-preserved g c = record {
  read = λ text none s.
      let left = g.S.Source.left c.loop-line.source in
      let h = c.loop-line.invariant.read text none s in
      let t = c.in_ok-end.ensures.parts most_input text h.given
      (ahead text c.loop-line.number c.loop-line.self c.loop-line.supply left h) h.stands
      (visible text c.loop-line.number c.loop-line.self c.loop-line.supply left h) in
      after-line text c.loop-line.number (c.loop-line.number + 1) c.loop-line.self c.add_line.new.self
      c.loop-line.supply c.next_part.new.supply left _ c.next_part.new.line.items h
      (rw (c.in-Line.is, c.in-Feed.is) at t) refl (rw c.deref.ensures.value at c.in_ok-ends.ensures.adds).0
      (sym (rw c.deref.ensures.value at c.in_ok-ends.ensures.adds).1 ∙ c.if-ends.false);
  most = let a = c.loop-line.invariant.most in let b = c.next_part.ensures.most in omega (arith, a, b);
  number = let a = c.loop-line.invariant.number in
      let b = c.in_ok-end.ensures.rises (ap (λ (p : Part). Ok p) (c.in-Line.is ∙ ap (λ (e : LineEnd). parts.Line e) c.in-Feed.is)) in
      omega (arith, a, b);
  few = let a = c.loop-line.invariant.few in let b = c.add_line.ensures.few in omega (arith, a, b);
  keyed = λ k. c.add_line.ensures.keyed (c.loop-line.invariant.keyed k);
  counts = let a = c.loop-line.invariant.counts in let b = c.next_part.ensures.counts in omega (arith, a, b);
}
