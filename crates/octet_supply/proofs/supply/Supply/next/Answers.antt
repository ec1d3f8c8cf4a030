use Rattle.std.proofs.Common.{ap}
use Rattle.std.proofs.lemmas.Result.{err_from_is_err_and}
use Rattle.octet_supply.specs.Supplying.{Held}
use Rattle.octet_supply.proofs.supply.Supply.next.Goals as goal

pub returns-in_err-has_some-clause-gives : goal.returns-in_err-has_some-clause-gives
returns-in_err-has_some-clause-gives g c = λ limit text given s.
    let p = err_from_is_err_and c.from_residual.result c.from_residual.ensures.1 in
    rw (p.1, p.2) (c.in_err-has_some.ensures.fills limit text given s)

pub returns-then-not-branch-clause-gives : goal.returns-then-not-branch-clause-gives
returns-then-not-branch-clause-gives g c = λ limit text given s.
    let f = c.in_ok-has_some.ensures.fills limit text given s in
    let e = rw c.if-not-branch.true at f in e.1

pub returns-in_err-has_some-clause-asks : goal.returns-in_err-has_some-clause-asks
returns-in_err-has_some-clause-asks g c =
    let p = err_from_is_err_and c.from_residual.result c.from_residual.ensures.1 in
    rw (p.1, p.2) c.in_err-has_some.ensures.asks

pub returns-then-not-branch-clause-asks : goal.returns-then-not-branch-clause-asks
returns-then-not-branch-clause-asks g c = rw c.if-not-branch.true at c.in_ok-has_some.ensures.asks

pub returns-clause-asks : goal.returns-clause-asks
returns-clause-asks g c = (
  c.has_some.new.self,
  rw c.if-not-branch.false at c.in_ok-has_some.ensures.asks,
  c.give_one.ensures.octet,
  ap (λ (h : Held). h.octets) c.give_one.ensures.held,
  ap (λ (h : Held). h.past) c.give_one.ensures.held,
)
