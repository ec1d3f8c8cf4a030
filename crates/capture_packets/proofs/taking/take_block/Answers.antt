use Rattle.std.proofs.Common.{◌≡◌, ◌+◌, ◌++◌, ◌∙◌, ℕ, List, ap, arith, subst, take}
use Rattle.std.proofs.lemmas.Result.{err_from_is_err_and}
use Rattle.capture_packets.specs.Numbers.{part}
use Rattle.capture_packets.proofs.Taken.{Got, got-more, got-none, last-take, pass-err, take-err}
use Rattle.capture_packets.proofs.taking.take_block.Goals as goal

pub returns-in_err-pass-clause-takes : goal.returns-in_err-pass-clause-takes
returns-in_err-pass-clause-takes g c = λ limit text given behind s visible.
    let b = c.args.block.now in
    let g0 = got-none limit text given behind _ _ s in
    let t = c.in_err-pass.ensures.passes limit text (given ++ take 0 behind) g0.stands in
    let p = err_from_is_err_and c.from_residual.result c.from_residual.ensures.1 in
    rw (p.1, p.2) (pass-err limit text given behind 0 b.before c.args.closing b c.clear.new.self.items
    c.pass.new.self c.pass.new.self _ c.in_err-pass.field-0.0 visible (omega arith) t)

pub returns-in_err-take-clause-takes : goal.returns-in_err-take-clause-takes
returns-in_err-take-clause-takes g c = λ limit text given behind s visible.
    let b = c.args.block.now in
    let g0 = got-none limit text given behind _ _ s in
    let p1 = c.in_ok-pass.ensures.passes limit text (given ++ take 0 behind) g0.stands in
    let g1 = got-more limit text given behind p1.0 0 b.before c.args.supply.now c.pass.new.self _ _ visible g0 p1.1 in
    let t = c.in_err-take.ensures.takes limit text (given ++ take (0 + b.before) behind) g1.got.stands in
    let p = err_from_is_err_and c.from_residual-in_err-take.result c.from_residual-in_err-take.ensures.1 in
    rw (p.1, p.2) (take-err limit text given behind (0 + b.before) b.kept c.args.closing b c.clear.new.self.items
    c.take.new.into.items c.take.new.into.items c.take.new.self c.take.new.self _ c.in_err-take.field-0.0 visible
    (omega arith) t)

pub returns-in_err-pass-2-clause-takes : goal.returns-in_err-pass-2-clause-takes
returns-in_err-pass-2-clause-takes g c = λ limit text given behind s visible.
    let b = c.args.block.now in
    let g0 = got-none limit text given behind _ _ s in
    let p1 = c.in_ok-pass.ensures.passes limit text (given ++ take 0 behind) g0.stands in
    let g1 = got-more limit text given behind p1.0 0 b.before c.args.supply.now c.pass.new.self _ _ visible g0 p1.1 in
    let t2 = c.in_ok-take.ensures.takes limit text (given ++ take (0 + b.before) behind) g1.got.stands in
    let g2 = got-more limit text given behind t2.0 (0 + b.before) b.kept c.pass.new.self c.take.new.self _ _ visible g1.got t2.2 in
    let t = c.in_err-pass-2.ensures.passes limit text (given ++ take (0 + b.before + b.kept) behind) g2.got.stands in
    let p = err_from_is_err_and c.from_residual-in_err-pass-2.result c.from_residual-in_err-pass-2.ensures.1 in
    rw (p.1, p.2) (pass-err limit text given behind (0 + b.before + b.kept) b.behind c.args.closing b
    c.take.new.into.items c.pass-2.new.self c.pass-2.new.self _ c.in_err-pass-2.field-0.0 visible (omega arith) t)

pub returns-clause-takes : goal.returns-clause-takes
returns-clause-takes g c = λ limit text given behind s visible.
    let b = c.args.block.now in
    let g0 = got-none limit text given behind _ _ s in
    let p1 = c.in_ok-pass.ensures.passes limit text (given ++ take 0 behind) g0.stands in
    let g1 = got-more limit text given behind p1.0 0 b.before c.args.supply.now c.pass.new.self _ _ visible g0 p1.1 in
    let t2 = c.in_ok-take.ensures.takes limit text (given ++ take (0 + b.before) behind) g1.got.stands in
    let g2 = got-more limit text given behind t2.0 (0 + b.before) b.kept c.pass.new.self c.take.new.self _ _ visible g1.got t2.2 in
    let p3 = c.in_ok-pass-2.ensures.passes limit text (given ++ take (0 + b.before + b.kept) behind) g2.got.stands in
    let g3 = got-more limit text given behind p3.0 (0 + b.before + b.kept) b.behind c.take.new.self c.pass-2.new.self _ _ visible g2.got p3.1 in
    let gone : 0 + b.before + b.kept + b.behind ≡ b.before + (b.kept + b.behind) = omega arith in
    let first : 0 + b.before ≡ b.before = omega arith in
    let left = g.S.Source.left c.pass-2.new.source in
    let got = subst (λ (k : ℕ). Got limit text given behind k c.pass-2.new.self left) gone g3.got in
    let t4 = c.take-2.ensures.takes limit text (given ++ take (b.before + (b.kept + b.behind)) behind) got.stands in
    last-take limit text given behind c.args.closing b c.take.new.into.items c.take-2.new.into.items
    c.pass-2.new.self c.take-2.new.self left _ c.take-2.result visible
    (t2.1 ∙ ap (λ (l : List ℕ). l ++ t2.0) c.clear.ensures.items ∙ g2.is
    ∙ ap (λ (k : ℕ). part k b.kept behind) first)
    got t4
