use Rattle.std.proofs.Common.{◌∙◌, ◌+◌, ℕ, List, Ok, Err, sym, ap, subst, refl, arith}
use Rattle.std.proofs.lemmas.Result.{err_from_is_err_and}
use Rattle.capture_file.specs.declared.order.Order.{Order}
use Rattle.packet_lines.specs.inside.Reading.{Writes}
use Rattle.packet_lines.proofs.Ends.{HasTold, open-ends, read-ends, told-more, told-none, whole-ends, write-ends}
use Rattle.packet_lines.proofs.Steps.{never-write, read-faulted, same-error}
use Rattle.packet_lines.proofs.telling.dissect.Goals as goal

pub returns-in_err-reader-clause-told : goal.returns-in_err-reader-clause-told
returns-in_err-reader-clause-told g c = λ file told.
    let p = err_from_is_err_and c.from_residual.result c.from_residual.ensures.1 in
    rw (p.1, p.2) (open-ends file _ _ c.in_err-reader.field-0.0 (c.in_err-reader.ensures.opens file told))

pub returns-in_err-reader-clause-write_fault : goal.returns-in_err-reader-clause-write_fault
returns-in_err-reader-clause-write_fault g c = λ is.
    let p = err_from_is_err_and c.from_residual.result c.from_residual.ensures.1 in
    absurd (never-write c.in_err-reader.field-0.0 (same-error _ _ _ (p.1 ∙ ap (λ e. Err e) p.2) is))

pub returns-in_err-reader-clause-read_fault : goal.returns-in_err-reader-clause-read_fault
returns-in_err-reader-clause-read_fault g c = λ is.
    let p = err_from_is_err_and c.from_residual.result c.from_residual.ensures.1 in
    c.in_err-reader.ensures.failed (ap (λ e. Err e)
    (read-faulted c.in_err-reader.field-0.0 (same-error _ _ _ (p.1 ∙ ap (λ e. Err e) p.2) is)))

pub loop-line-init : goal.loop-line-init
loop-line-init g c = record {
  told = λ file told. told-none file c.in_ok-reader.reader.order c.in_ok-reader.reader.supply _ _
      (c.in_ok-reader.ensures.opens file told);
  few = omega arith;
  reads = c.open.ensures.counts;
  writes = omega arith;
}

pub returns-in_err-read-clause-told : goal.returns-in_err-read-clause-told
returns-in_err-read-clause-told g c = λ file told.
    let p = err_from_is_err_and c.from_residual-in_err-read.result c.from_residual-in_err-read.ensures.1 in
    let t = c.loop-line.invariant.told file told in
    rw (p.1, p.2) (read-ends file c.read.new.packet.items c.loop-line.reader.order c.loop-line.reader.supply
    c.read.new.self.supply _ _ c.loop-line.number _ _ c.in_err-read.field-0.0 t
    (c.in_err-read.ensures.reads file t.given t.stands))

pub returns-in_err-read-clause-write_fault : goal.returns-in_err-read-clause-write_fault
returns-in_err-read-clause-write_fault g c = λ is.
    let p = err_from_is_err_and c.from_residual-in_err-read.result c.from_residual-in_err-read.ensures.1 in
    absurd (never-write c.in_err-read.field-0.0 (same-error _ _ _ (p.1 ∙ ap (λ e. Err e) p.2) is))

pub loop-line-preserved : goal.loop-line-preserved
loop-line-preserved g c = record {
  told = λ file told.
      let t = c.loop-line.invariant.told file told in
      let r = c.in_ok-read.ensures.reads file t.given t.stands in
      let w = subst (λ (l : List ℕ). Writes (c.loop-line.number + 1) l (g.K.Sink.held c.loop-line.sink)
      (g.K.Sink.held c.write_line.new.sink) (Ok tt)) c.deref.ensures.value c.in_ok-write_line.ensures.writes in
      subst (λ (o : Order). HasTold file o c.read.new.self.supply (g.S.Source.left c.read.new.source)
      (c.loop-line.number + 1) (g.K.Sink.held c.args.sink.now) (g.K.Sink.held c.write_line.new.sink))
      (sym c.read.ensures.order)
      (told-more file c.read.new.packet.items c.loop-line.reader.order c.loop-line.reader.supply
      c.read.new.self.supply _ _ c.loop-line.number (c.loop-line.number + 1) _ _ _ t
      (rw c.if-branch.true at r) refl w);
  few = let i = c.loop-line.invariant.few in let n = c.in_ok-read.ensures.given c.if-branch.true in
      omega (arith, i, n);
  reads = let a = c.loop-line.invariant.reads in let b = c.read.ensures.counts in omega (arith, a, b);
  writes = let a = c.loop-line.invariant.writes in let b = c.write_line.ensures.counts in omega (arith, a, b);
}

pub returns-in_err-write_line-clause-told : goal.returns-in_err-write_line-clause-told
returns-in_err-write_line-clause-told g c = λ file told.
    let p = err_from_is_err_and c.from_residual-in_err-write_line.result c.from_residual-in_err-write_line.ensures.1 in
    let t = c.loop-line.invariant.told file told in
    let r = c.in_ok-read.ensures.reads file t.given t.stands in
    let w = subst (λ (l : List ℕ). Writes (c.loop-line.number + 1) l (g.K.Sink.held c.loop-line.sink)
    (g.K.Sink.held c.write_line.new.sink) (Err c.in_err-write_line.field-0.0)) c.deref.ensures.value
    c.in_err-write_line.ensures.writes in
    rw (p.1, p.2) (write-ends file c.read.new.packet.items c.loop-line.reader.order c.loop-line.reader.supply
    c.read.new.self.supply _ _ c.loop-line.number (c.loop-line.number + 1) _ _ _
    c.in_err-write_line.field-0.0 t (rw c.if-branch.true at r) refl w)

pub returns-clause-told : goal.returns-clause-told
returns-clause-told g c = λ file told.
    let t = c.loop-line.invariant.told file told in
    let r = c.in_ok-read.ensures.reads file t.given t.stands in
    whole-ends file c.loop-line.reader.order c.loop-line.reader.supply _ _ c.loop-line.number _ _ t
    (rw c.if-branch.false at r)
