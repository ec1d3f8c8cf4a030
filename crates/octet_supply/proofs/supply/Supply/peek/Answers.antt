use Rattle.std.proofs.Common.{◌<◌, ◌≤◌, ◌∙◌, [], ap, arith, length, length-drop, sym}
use Rattle.std.proofs.lemmas.Result.{err_from_is_err_and}
use Rattle.octet_supply.specs.Asking.{Fewer}
use Rattle.octet_supply.specs.Supplying.{Held}
use Rattle.octet_supply.proofs.Asking.{had-asked, had-limit, had-none, had-ok, once-end, once-err}
use Rattle.octet_supply.proofs.Supplies.{peeks-past, peeks-err, peeks-all, peeks-short}
use Rattle.octet_supply.proofs.supply.Supply.peek.Goals as goal

pub returns-then-self-clause-peeks : goal.returns-then-self-clause-peeks
returns-then-self-clause-peeks g c = λ limit text given s.
    let view = ap (λ (h : Held). length h.octets) c.self.view_is in
    let long = length-drop c.self.inside.start c.self.inside.piece.items in
    let past = sym (ap (λ (h : Held). h.past) c.self.view_is) ∙ c.if-self.true in
    peeks-past limit text given c.args.count c.loop-self.self _
    (c.loop-self.invariant.stands limit text given s) past
    (omega (arith, view, long, c.len.ensures, c.loop-self-test.true))

pub returns-in_err-ask-clause-peeks : goal.returns-in_err-ask-clause-peeks
returns-in_err-ask-clause-peeks g c = λ limit text given s.
    let view = ap (λ (h : Held). length h.octets) c.self.view_is in
    let long = length-drop c.self.inside.start c.self.inside.piece.items in
    let few : length c.loop-self.self.octets < c.args.count =
    omega (arith, view, long, c.len.ensures, c.loop-self-test.true) in
    let p = err_from_is_err_and c.from_residual.result c.from_residual.ensures.1 in
    rw (p.1, p.2) (peeks-err limit text given c.loop-self.self.octets c.args.count c.ask.new.self _
    c.in_err-ask.field-0.0
    (c.in_err-ask.ensures.fills limit text given (c.loop-self.invariant.stands limit text given s)) few)

pub returns-then-not-branch-clause-peeks : goal.returns-then-not-branch-clause-peeks
returns-then-not-branch-clause-peeks g c = λ limit text given s.
    let view = ap (λ (h : Held). length h.octets) c.self.view_is in
    let long = length-drop c.self.inside.start c.self.inside.piece.items in
    let few : length c.loop-self.self.octets < c.args.count =
    omega (arith, view, long, c.len.ensures, c.loop-self-test.true) in
    let f = c.in_ok-ask.ensures.fills limit text given (c.loop-self.invariant.stands limit text given s) in
    peeks-short limit text given c.loop-self.self.octets c.args.count c.ask.new.self _ (rw c.if-not-branch.true at f) few

pub returns-clause-peeks : goal.returns-clause-peeks
returns-clause-peeks g c = λ limit text given s.
    let view = ap (λ (h : Held). length h.octets) c.self.view_is in
    let long = length-drop c.self.inside.start c.self.inside.piece.items in
    let enough : c.args.count ≤ length c.loop-self.self.octets =
    omega (arith, view, long, c.len.ensures, c.loop-self-test.false) in
    peeks-all limit text given c.args.count c.loop-self.self _
    (c.loop-self.invariant.stands limit text given s) enough

pub returns-then-self-clause-turns : goal.returns-then-self-clause-turns
returns-then-self-clause-turns g c =
    had-limit g.S.Source.Gave (Fewer c.args.count) _ _ [] c.loop-self.self _ c.loop-self.invariant.turned

pub returns-in_err-ask-clause-turns : goal.returns-in_err-ask-clause-turns
returns-in_err-ask-clause-turns g c =
    let view = ap (λ (h : Held). length h.octets) c.self.view_is in
    let long = length-drop c.self.inside.start c.self.inside.piece.items in
    let few : length c.loop-self.self.octets < c.args.count =
    omega (arith, view, long, c.len.ensures, c.loop-self-test.true) in
    let calm = sym (ap (λ (h : Held). h.past) c.self.view_is) ∙ c.if-self.false in
    let p = err_from_is_err_and c.from_residual.result c.from_residual.ensures.1 in
    rw (p.1, p.2) (once-err g.S.Source.Gave (Fewer c.args.count) _ _ [] c.loop-self.self c.ask.new.self _ _
    c.in_err-ask.field-0.0 c.loop-self.invariant.turned calm few c.in_err-ask.ensures.asks)

pub returns-then-not-branch-clause-turns : goal.returns-then-not-branch-clause-turns
returns-then-not-branch-clause-turns g c =
    let view = ap (λ (h : Held). length h.octets) c.self.view_is in
    let long = length-drop c.self.inside.start c.self.inside.piece.items in
    let few : length c.loop-self.self.octets < c.args.count =
    omega (arith, view, long, c.len.ensures, c.loop-self-test.true) in
    let calm = sym (ap (λ (h : Held). h.past) c.self.view_is) ∙ c.if-self.false in
    once-end g.S.Source.Gave (Fewer c.args.count) _ _ [] c.loop-self.self c.ask.new.self _ _ tt
    c.loop-self.invariant.turned calm few (rw c.if-not-branch.true at c.in_ok-ask.ensures.asks)

pub returns-clause-turns : goal.returns-clause-turns
returns-clause-turns g c =
    had-ok g.S.Source.Gave (Fewer c.args.count) _ _ [] c.loop-self.self _ tt c.loop-self.invariant.turned

pub loop-self-preserved : goal.loop-self-preserved
loop-self-preserved g c =
    let i = c.loop-self.invariant in
    let view = ap (λ (h : Held). length h.octets) c.self.view_is in
    let long = length-drop c.self.inside.start c.self.inside.piece.items in
    let few : length c.loop-self.self.octets < c.args.count =
    omega (arith, view, long, c.len.ensures, c.loop-self-test.true) in
    let calm = sym (ap (λ (h : Held). h.past) c.self.view_is) ∙ c.if-self.false in
    record {
      stands = λ limit text given s.
          let f = c.in_ok-ask.ensures.fills limit text given (i.stands limit text given s) in
          (rw c.if-not-branch.false at f).0;
      turned = had-asked g.S.Source.Gave (Fewer c.args.count) _ _ [] c.loop-self.self c.ask.new.self _ _ i.turned
          calm few (rw c.if-not-branch.false at c.in_ok-ask.ensures.asks);
      given = c.ask.ensures.given ∙ i.given;
      most = c.ask.ensures.most ∙ i.most;
      counts = let a = i.counts in let b = c.ask.ensures.counts in omega (arith, a, b);
    }
