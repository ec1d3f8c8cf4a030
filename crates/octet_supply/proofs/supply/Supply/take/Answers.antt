use Rattle.std.proofs.Common.{◌≡◌, ◌+◌, ◌<◌, ◌∙◌, ◌++◌, [], refl, ap, arith, length, take, length-append}
use Rattle.std.proofs.lemmas.List.{length-take-le}
use Rattle.std.proofs.lemmas.Result.{err_from_is_err_and}
use Rattle.lan_base.specs.declared.source.ReadEnd.TheVariants.{Memory}
use Rattle.octet_supply.specs.Asking.{Fewer}
use Rattle.octet_supply.specs.Supplying.{Held}
use Rattle.octet_supply.proofs.Asking.{first-end, first-err, first-some, had-given, had-memory, had-none, had-ok}
use Rattle.octet_supply.proofs.Supplies.{taken-all, taken-end, taken-err, taken-more, taken-none}
use Rattle.octet_supply.proofs.supply.Supply.take.Goals as goal

pub returns-in_err-has_some-clause-takes : goal.returns-in_err-has_some-clause-takes
returns-in_err-has_some-clause-takes g c = λ limit text given s.
    let t = c.loop-wanted.invariant.taken limit text given s in
    let p = err_from_is_err_and c.from_residual.result c.from_residual.ensures.1 in
    rw (p.1, p.2) (taken-err limit text given c.args.count c.loop-wanted.wanted c.args.into.now.items
    c.loop-wanted.into.items c.loop-wanted.self c.has_some.new.self _ _ c.in_err-has_some.field-0.0 t c.loop-wanted-test.true
    (c.in_err-has_some.ensures.fills limit text (given ++ t.more) t.stands))

pub returns-then-not-branch-clause-takes : goal.returns-then-not-branch-clause-takes
returns-then-not-branch-clause-takes g c = λ limit text given s.
    let t = c.loop-wanted.invariant.taken limit text given s in
    let f = c.in_ok-has_some.ensures.fills limit text (given ++ t.more) t.stands in
    taken-end limit text given c.args.count c.loop-wanted.wanted c.args.into.now.items
    c.loop-wanted.into.items c.loop-wanted.self c.has_some.new.self _ _ t c.loop-wanted-test.true
    (rw c.if-not-branch.true at f)

pub loop-wanted-preserved : goal.loop-wanted-preserved
loop-wanted-preserved g c =
    let n = c.in_ok-wanted.field-0 in
    let k = c.in_ok-wanted.ensures.count in
    let few = k.2 in
    let middle = c.has_some.new.self in
    let i = c.loop-wanted.invariant in
    let long = ap length c.in_ok-wanted.ensures.appended
    ∙ length-append c.loop-wanted.into.items (take n middle.octets) in
    let piece = length-take-le n middle.octets few in
    let held = ap (λ h. h.given) c.in_ok-wanted.ensures.held in
    let kept = c.in_ok-has_some.ensures.given in
    record {
      taken = λ limit text given s.
          let t = i.taken limit text given s in
          let f = c.in_ok-has_some.ensures.fills limit text (given ++ t.more) t.stands in
          taken-more limit text given c.args.count c.loop-wanted.wanted _ n c.args.into.now.items
          c.loop-wanted.into.items c.give.new.into.items c.loop-wanted.self _ _ middle
          c.give.new.self t (rw c.if-not-branch.false at f).0 few k.1 refl
          c.in_ok-wanted.ensures.appended c.in_ok-wanted.ensures.held;
      turned =
          let t = i.turned in
          let few_had : length t.0 < c.args.count = omega (arith, t.1, c.loop-wanted-test.true) in
          let all = length-append t.0 (take n middle.octets) in (
            t.0 ++ take n middle.octets,
            omega (arith, t.1, all, piece, k.1),
            had-given g.S.Source.Gave (Fewer c.args.count) _ _ t.0 middle c.give.new.self n _
                (first-some g.S.Source.Gave (Fewer c.args.count) _ _ t.0 c.loop-wanted.self middle _ _ t.2 few_had
                (rw c.if-not-branch.false at c.in_ok-has_some.ensures.asks))
                (ap (λ (h : Held). h.octets) c.in_ok-wanted.ensures.held)
                (ap (λ (h : Held). h.past) c.in_ok-wanted.ensures.held),
          );
      more = let m = i.more in omega (arith, m, long, piece, held, kept);
      most = let m = i.most in let less = k.1 in omega (arith, m, long, piece, less);
      counts = let a = i.counts in let b = c.has_some.ensures.counts in omega (arith, a, b);
    }

pub returns-clause-takes : goal.returns-clause-takes
returns-clause-takes g c = λ limit text given s.
    taken-all limit text given c.args.count c.loop-wanted.wanted c.args.into.now.items
    c.loop-wanted.into.items c.loop-wanted.self _ (c.loop-wanted.invariant.taken limit text given s)
    c.loop-wanted-test.false

pub loop-wanted-init : goal.loop-wanted-init
loop-wanted-init g c = record {
  taken = λ limit text given s. taken-none limit text given _ _ _ _ s;
  turned = ([], omega arith, had-none g.S.Source.Gave (Fewer c.args.count) c.args.self.now c.args.source.now);
  more = refl;
  most = omega arith;
  counts = omega arith;
}

pub returns-in_err-has_some-clause-turns : goal.returns-in_err-has_some-clause-turns
returns-in_err-has_some-clause-turns g c =
    let t = c.loop-wanted.invariant.turned in
    let few : length t.0 < c.args.count = omega (arith, t.1, c.loop-wanted-test.true) in
    let p = err_from_is_err_and c.from_residual.result c.from_residual.ensures.1 in
    rw (p.1, p.2) (first-err g.S.Source.Gave (Fewer c.args.count) _ _ t.0 c.loop-wanted.self c.has_some.new.self
    _ _ c.in_err-has_some.field-0.0 t.2 few c.in_err-has_some.ensures.asks)

pub returns-then-not-branch-clause-turns : goal.returns-then-not-branch-clause-turns
returns-then-not-branch-clause-turns g c =
    let t = c.loop-wanted.invariant.turned in
    let few : length t.0 < c.args.count = omega (arith, t.1, c.loop-wanted-test.true) in
    first-end g.S.Source.Gave (Fewer c.args.count) _ _ t.0 c.loop-wanted.self c.has_some.new.self _ _ tt t.2 few
    (rw c.if-not-branch.true at c.in_ok-has_some.ensures.asks)

pub returns-clause-turns : goal.returns-clause-turns
returns-clause-turns g c =
    let t = c.loop-wanted.invariant.turned in
    had-ok g.S.Source.Gave (Fewer c.args.count) _ _ t.0 c.loop-wanted.self _ tt t.2

pub returns-in_err-wanted-clause-turns : goal.returns-in_err-wanted-clause-turns
returns-in_err-wanted-clause-turns g c =
    let t = c.loop-wanted.invariant.turned in
    let few : length t.0 < c.args.count = omega (arith, t.1, c.loop-wanted-test.true) in
    let p = err_from_is_err_and c.from_residual-in_err-wanted.result c.from_residual-in_err-wanted.ensures.1 in
    let wanting = c.in_err-wanted.ensures.memory in
    let is : c.in_err-wanted.field-0.0 ≡ Memory = cc in
    rw (p.1, p.2, is) (had-memory g.S.Source.Gave (Fewer c.args.count) _ _ t.0 c.has_some.new.self _
    (first-some g.S.Source.Gave (Fewer c.args.count) _ _ t.0 c.loop-wanted.self c.has_some.new.self _ _ t.2 few
    (rw c.if-not-branch.false at c.in_ok-has_some.ensures.asks)))
