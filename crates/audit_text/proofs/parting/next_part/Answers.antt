use Rattle.std.proofs.Common.{◌∙◌, false, sym, true}
use Rattle.std.proofs.lemmas.Result.{err_from_is_err_and}
use Rattle.audit_text.proofs.Parted.{parts-capture, parts-err, parts-line, parts-peek, seen-is, starts-is}
use Rattle.audit_text.proofs.parting.next_part.Goals as goal

pub returns-in_err-peek-clause-parts : goal.returns-in_err-peek-clause-parts
returns-in_err-peek-clause-parts g c = λ limit text given behind s visible.
    let p = err_from_is_err_and c.from_residual.result c.from_residual.ensures.1 in
    rw (p.1, p.2) (parts-peek limit text given behind c.clear.new.self.items c.peek.new.self _ c.in_err-peek.field-0.0
    visible (c.in_err-peek.ensures.peeks limit text given s))

pub returns-then-begins_file-clause-parts : goal.returns-then-begins_file-clause-parts
returns-then-begins_file-clause-parts g c = λ limit text given behind s visible.
    let p = c.in_ok-peek.ensures.peeks limit text given s in
    let left = g.S.Source.left c.peek.new.source in
    parts-capture limit text given behind c.clear.new.self.items c.peek.new.self left p
    (starts-is limit text given behind c.held-held.result.now c.peek.new.self left c.min.result true visible p
    c.held-held.ensures c.min.ensures (sym c.begins_file.ensures ∙ c.if-begins_file.true))

pub returns-in_err-end-clause-parts : goal.returns-in_err-end-clause-parts
returns-in_err-end-clause-parts g c = λ limit text given behind s visible.
    let p = c.in_ok-peek.ensures.peeks limit text given s in
    let left = g.S.Source.left c.peek.new.source in
    let t = c.in_err-end.ensures.takes limit text given p.0 in
    let q = err_from_is_err_and c.from_residual-in_err-end.result c.from_residual-in_err-end.ensures.1 in
    rw (q.1, q.2) (parts-err limit text given behind c.line.new.into.items c.clear.new.self.items
    c.line.new.into.items c.line.new.self c.line.new.self (g.S.Source.left c.line.new.source)
    c.in_err-end.field-0.0 visible
    (starts-is limit text given behind c.held-held.result.now c.peek.new.self left c.min.result false visible p
    c.held-held.ensures c.min.ensures (sym c.begins_file.ensures ∙ c.if-begins_file.false)) t)

pub returns-clause-parts : goal.returns-clause-parts
returns-clause-parts g c = λ limit text given behind s visible.
    let p = c.in_ok-peek.ensures.peeks limit text given s in
    let left = g.S.Source.left c.peek.new.source in
    let t = c.in_ok-end.ensures.takes limit text given p.0 in
    parts-line limit text given behind c.line.new.into.items c.drop_ending.new.line.items c.line.new.self
    (g.S.Source.left c.line.new.source) c.in_ok-end.end visible
    (starts-is limit text given behind c.held-held.result.now c.peek.new.self left c.min.result false visible p
    c.held-held.ensures c.min.ensures (sym c.begins_file.ensures ∙ c.if-begins_file.false))
    (seen-is limit text given behind c.peek.new.self left visible p) (rw c.clear.ensures.items at t) c.drop_ending.ensures
