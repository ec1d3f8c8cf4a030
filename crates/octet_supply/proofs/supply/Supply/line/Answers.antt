use Rattle.std.proofs.Common.{◌++◌, ◌∷◌, [], ◌-◌, arith, length-append, refl}
use Rattle.std.specs.Prelude.{◌≢◌, ℕ}
use Rattle.std.proofs.lemmas.List.Elements.{All-push}
use Rattle.std.proofs.lemmas.Result.{err_from_is_err_and}
use Rattle.octet_supply.specs.Supplying.{IsInLine}
use Rattle.octet_supply.proofs.Asking.{had-memory, had-none, had-ok, next-end, next-err, next-some}
use Rattle.octet_supply.proofs.Supplies.{line-end, line-err, line-feed, line-more, line-most}
use Rattle.octet_supply.proofs.supply.Supply.line.Goals as goal

pub returns-in_err-octet-clause-takes : goal.returns-in_err-octet-clause-takes
returns-in_err-octet-clause-takes g c = λ limit text given s.
    let t = c.loop-octet.invariant.taken limit text given s in
    let p = err_from_is_err_and c.from_residual.result c.from_residual.ensures.1 in
    rw (p.1, p.2) (line-err limit text given c.args.most c.loop-octet.room c.args.into.now.items
    c.loop-octet.into.items c.loop-octet.self c.next.new.self _ _
    c.in_err-octet.field-0.0 t (c.in_err-octet.ensures.gives limit text (given ++ t.line) t.stands))

pub returns-then-octet-eq10-clause-takes : goal.returns-then-octet-eq10-clause-takes
returns-then-octet-eq10-clause-takes g c = λ limit text given s.
    let t = c.loop-octet.invariant.taken limit text given s in
    let n = c.in_ok-octet.ensures.gives limit text (given ++ t.line) t.stands in
    line-feed limit text given c.args.most c.loop-octet.room c.in-Some.octet c.args.into.now.items
    c.loop-octet.into.items c.loop-octet.self c.next.new.self _ _ t (rw c.in-Some.is at n)
    c.if-octet-eq10.true

pub returns-then-room-eq0-clause-takes : goal.returns-then-room-eq0-clause-takes
returns-then-room-eq0-clause-takes g c = λ limit text given s.
    let t = c.loop-octet.invariant.taken limit text given s in
    let n = c.in_ok-octet.ensures.gives limit text (given ++ t.line) t.stands in
    line-most limit text given c.args.most c.loop-octet.room c.in-Some.octet c.args.into.now.items
    c.loop-octet.into.items c.loop-octet.self c.next.new.self _ _ t (rw c.in-Some.is at n)
    c.if-octet-eq10.false c.if-room-eq0.true

pub loop-octet-preserved : goal.loop-octet-preserved
loop-octet-preserved g c = record {
  taken = λ limit text given s.
      let t = c.loop-octet.invariant.taken limit text given s in
      let n = c.in_ok-octet.ensures.gives limit text (given ++ t.line) t.stands in
      line-more limit text given c.args.most c.loop-octet.room (c.loop-octet.room - 1) c.in-Some.octet
      c.args.into.now.items c.loop-octet.into.items c.push.new.self.items c.loop-octet.self c.next.new.self _ _ t
      (rw c.in-Some.is at n) c.if-octet-eq10.false c.if-room-eq0.false refl c.in-Ok.ensures.items;
  turned =
      let t = c.loop-octet.invariant.turned in
      let n = c.in_ok-octet.ensures.asks in
      let all = length-append t.0 (c.in-Some.octet ∷ []) in
      let short : IsInLine c.args.most t.0 = record { none = t.2; few = omega (arith, t.1) } in (
        t.0 ++ c.in-Some.octet ∷ [],
        omega (arith, t.1, all, c.if-room-eq0.false),
        All-push (λ (o : ℕ). o ≢ 10) t.0 c.in-Some.octet t.2 c.if-octet-eq10.false,
        next-some g.S.Source.Gave (IsInLine c.args.most) _ _ t.0 c.in-Some.octet c.loop-octet.self c.next.new.self
            _ _ t.3 short (rw c.in-Some.is at n),
      );
  given = let a = c.loop-octet.invariant.given in let b = c.in_ok-octet.ensures.more in omega (arith, a, rw c.in-Some.is at b);
  most = let a = c.loop-octet.invariant.most in let b = c.next.ensures.most in omega (arith, a, b);
  counts = let a = c.loop-octet.invariant.counts in let b = c.next.ensures.counts in omega (arith, a, b);
}

pub returns-clause-takes : goal.returns-clause-takes
returns-clause-takes g c = λ limit text given s.
    let t = c.loop-octet.invariant.taken limit text given s in
    let n = c.in_ok-octet.ensures.gives limit text (given ++ t.line) t.stands in
    line-end limit text given c.args.most c.loop-octet.room c.args.into.now.items
    c.loop-octet.into.items c.loop-octet.self c.next.new.self _ _ t (rw c.in_default.is at n)

pub returns-in_err-octet-clause-turns : goal.returns-in_err-octet-clause-turns
returns-in_err-octet-clause-turns g c =
    let t = c.loop-octet.invariant.turned in
    let short : IsInLine c.args.most t.0 = record { none = t.2; few = omega (arith, t.1) } in
    let p = err_from_is_err_and c.from_residual.result c.from_residual.ensures.1 in
    rw (p.1, p.2) (next-err g.S.Source.Gave (IsInLine c.args.most) _ _ t.0 c.loop-octet.self c.next.new.self _ _
    c.in_err-octet.field-0.0 t.3 short c.in_err-octet.ensures.asks)

pub returns-then-octet-eq10-clause-turns : goal.returns-then-octet-eq10-clause-turns
returns-then-octet-eq10-clause-turns g c =
    let t = c.loop-octet.invariant.turned in
    let short : IsInLine c.args.most t.0 = record { none = t.2; few = omega (arith, t.1) } in
    let n = c.in_ok-octet.ensures.asks in
    had-ok g.S.Source.Gave (IsInLine c.args.most) _ _ (t.0 ++ c.in-Some.octet ∷ []) c.next.new.self _ _
    (next-some g.S.Source.Gave (IsInLine c.args.most) _ _ t.0 c.in-Some.octet c.loop-octet.self c.next.new.self _ _
    t.3 short (rw c.in-Some.is at n))

pub returns-then-room-eq0-clause-turns : goal.returns-then-room-eq0-clause-turns
returns-then-room-eq0-clause-turns g c =
    let t = c.loop-octet.invariant.turned in
    let short : IsInLine c.args.most t.0 = record { none = t.2; few = omega (arith, t.1) } in
    let n = c.in_ok-octet.ensures.asks in
    had-ok g.S.Source.Gave (IsInLine c.args.most) _ _ (t.0 ++ c.in-Some.octet ∷ []) c.next.new.self _ _
    (next-some g.S.Source.Gave (IsInLine c.args.most) _ _ t.0 c.in-Some.octet c.loop-octet.self c.next.new.self _ _
    t.3 short (rw c.in-Some.is at n))

pub returns-clause-turns : goal.returns-clause-turns
returns-clause-turns g c =
    let t = c.loop-octet.invariant.turned in
    let short : IsInLine c.args.most t.0 = record { none = t.2; few = omega (arith, t.1) } in
    let n = c.in_ok-octet.ensures.asks in
    next-end g.S.Source.Gave (IsInLine c.args.most) _ _ t.0 c.loop-octet.self c.next.new.self _ _ _ t.3 short
    (rw c.in_default.is at n)

pub returns-in_default-push-clause-turns : goal.returns-in_default-push-clause-turns
returns-in_default-push-clause-turns g c =
    let t = c.loop-octet.invariant.turned in
    let short : IsInLine c.args.most t.0 = record { none = t.2; few = omega (arith, t.1) } in
    let n = c.in_ok-octet.ensures.asks in
    had-memory g.S.Source.Gave (IsInLine c.args.most) _ _ (t.0 ++ c.in-Some.octet ∷ []) c.next.new.self _
    (next-some g.S.Source.Gave (IsInLine c.args.most) _ _ t.0 c.in-Some.octet c.loop-octet.self c.next.new.self _ _
    t.3 short (rw c.in-Some.is at n))
