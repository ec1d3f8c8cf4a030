use Rattle.std.proofs.Common.{◌≡◌, ◌+◌, ◌<◌, ◌++◌, [], Ok, Err, ap, arith, length, length-append, refl, take}
use Rattle.std.proofs.lemmas.List.{length-take-le}
use Rattle.std.proofs.lemmas.Result.{err_from_is_err_and}
use Rattle.octet_supply.specs.Asking.{Fewer}
use Rattle.octet_supply.specs.Supplying.{Held}
use Rattle.octet_supply.proofs.Asking.{first-end, first-err, first-some, had-given, had-none, had-ok}
use Rattle.octet_supply.proofs.Supplies.{passes, taken-all, taken-end, taken-err, taken-more, taken-none}
use Rattle.octet_supply.proofs.supply.Supply.pass.Goals as goal

pub loop-wanted-init : goal.loop-wanted-init
loop-wanted-init g c = record {
  passed = λ limit text given s. ([], taken-none limit text given _ [] _ _ s);
  turned = ([], omega arith, had-none g.S.Source.Gave (Fewer c.args.count) c.args.self.now c.args.source.now);
  more = omega arith;
  counts = omega arith;
}

pub returns-in_err-has_some-clause-passes : goal.returns-in_err-has_some-clause-passes
returns-in_err-has_some-clause-passes g c = λ limit text given s.
    let t = c.loop-wanted.invariant.passed limit text given s in
    let p = err_from_is_err_and c.from_residual.result c.from_residual.ensures.1 in
    rw (p.1, p.2) (passes limit text given c.args.count t.0 c.has_some.new.self
    (g.S.Source.left c.has_some.new.source) (Err c.in_err-has_some.field-0.0) (taken-err limit text given c.args.count c.loop-wanted.wanted [] t.0 c.loop-wanted.self
    c.has_some.new.self _ _ c.in_err-has_some.field-0.0 t.1 c.loop-wanted-test.true
    (c.in_err-has_some.ensures.fills limit text (given ++ t.1.more) t.1.stands)))

pub returns-then-not-branch-clause-passes : goal.returns-then-not-branch-clause-passes
returns-then-not-branch-clause-passes g c = λ limit text given s.
    let t = c.loop-wanted.invariant.passed limit text given s in
    let f = c.in_ok-has_some.ensures.fills limit text (given ++ t.1.more) t.1.stands in
    passes limit text given c.args.count t.0 c.has_some.new.self
    (g.S.Source.left c.has_some.new.source) (Ok tt) (taken-end limit text given c.args.count c.loop-wanted.wanted [] t.0 c.loop-wanted.self
    c.has_some.new.self _ _ t.1 c.loop-wanted-test.true (rw c.if-not-branch.true at f))

pub loop-wanted-preserved : goal.loop-wanted-preserved
loop-wanted-preserved g c =
    let n = c.drop_some.result in
    let k = c.drop_some.ensures.count in
    let few = k.2 in
    let least = k.0 in
    let less = k.1 in
    let middle = c.has_some.new.self in
    let i = c.loop-wanted.invariant in
    let held = ap (λ (h : Held). h.given) c.drop_some.ensures.held in
    let kept = c.in_ok-has_some.ensures.given in
    record {
      passed = λ limit text given s.
          let t = i.passed limit text given s in
          let f = c.in_ok-has_some.ensures.fills limit text (given ++ t.1.more) t.1.stands in (
            t.0 ++ take n middle.octets,
            taken-more limit text given c.args.count c.loop-wanted.wanted _ n [] t.0 (t.0 ++ take n middle.octets)
                c.loop-wanted.self _ _ middle c.drop_some.new.self t.1 (rw c.if-not-branch.false at f).0
                few less refl refl c.drop_some.ensures.held,
          );
      turned =
          let t = i.turned in
          let few_had : length t.0 < c.args.count = omega (arith, t.1, c.loop-wanted-test.true) in
          let all = length-append t.0 (take n middle.octets) in
          let piece = length-take-le n middle.octets few in (
            t.0 ++ take n middle.octets,
            omega (arith, t.1, all, piece, less),
            had-given g.S.Source.Gave (Fewer c.args.count) _ _ t.0 middle c.drop_some.new.self n _
                (first-some g.S.Source.Gave (Fewer c.args.count) _ _ t.0 c.loop-wanted.self middle _ _ t.2 few_had
                (rw c.if-not-branch.false at c.in_ok-has_some.ensures.asks))
                (ap (λ (h : Held). h.octets) c.drop_some.ensures.held)
                (ap (λ (h : Held). h.past) c.drop_some.ensures.held),
          );
      more = let m = i.more in omega (arith, m, held, kept);
      counts = let a = i.counts in let b = c.has_some.ensures.counts in omega (arith, a, b);
    }

pub returns-clause-passes : goal.returns-clause-passes
returns-clause-passes g c = λ limit text given s.
    let t = c.loop-wanted.invariant.passed limit text given s in
    passes limit text given c.args.count t.0 c.loop-wanted.self
    (g.S.Source.left c.loop-wanted.source) (Ok tt) (taken-all limit text given c.args.count c.loop-wanted.wanted [] t.0 c.loop-wanted.self _ t.1
    c.loop-wanted-test.false)

pub returns-in_err-has_some-clause-turns : goal.returns-in_err-has_some-clause-turns
returns-in_err-has_some-clause-turns g c =
    let t = c.loop-wanted.invariant.turned in
    let few : length t.0 < c.args.count = omega (arith, t.1, c.loop-wanted-test.true) in
    let p = err_from_is_err_and c.from_residual.result c.from_residual.ensures.1 in
    rw (p.1, p.2) (first-err g.S.Source.Gave (Fewer c.args.count) _ _ t.0 c.loop-wanted.self c.has_some.new.self
    _ _ c.in_err-has_some.field-0.0 t.2 few c.in_err-has_some.ensures.asks)

pub returns-then-not-branch-clause-turns : goal.returns-then-not-branch-clause-turns
returns-then-not-branch-clause-turns g c =
    let t = c.loop-wanted.invariant.turned in
    let few : length t.0 < c.args.count = omega (arith, t.1, c.loop-wanted-test.true) in
    first-end g.S.Source.Gave (Fewer c.args.count) _ _ t.0 c.loop-wanted.self c.has_some.new.self _ _ tt t.2 few
    (rw c.if-not-branch.true at c.in_ok-has_some.ensures.asks)

pub returns-clause-turns : goal.returns-clause-turns
returns-clause-turns g c =
    let t = c.loop-wanted.invariant.turned in
    had-ok g.S.Source.Gave (Fewer c.args.count) _ _ t.0 c.loop-wanted.self _ tt t.2
