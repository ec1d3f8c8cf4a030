use Rattle.std.proofs.Common.{◌≡◌, true, get_or, sym, arith, []}
use Rattle.std.specs.Prelude.{nat_eq}
use lib.Pointwise.{pointwise}
use Rattle.lan_core.proofs.NamePlaced.{placed, nowhere}
use Rattle.lan_core.proofs.names.first_of.Goals as goal

pub returns-then-eq : goal.returns-then-eq
returns-then-eq c =
    let name = c.args.name.now in
    let names = c.args.names.now in
    let d = c.index-names-place.result in
    let here : pointwise nat_eq (get_or names c.loop-place.place d) name ≡ true =
    cc (c.eq.ensures, c.if-eq.true, c.octets.ensures.value, c.octets-in-loop-place.ensures.value, c.index-names-place.is) in
    sym (placed (λ other. pointwise nat_eq other name) names c.loop-place.place d c.loop-place-test.true
    (λ k less. c.loop-place.invariant k d less) here)

pub returns : goal.returns
returns c =
    let name = c.args.name.now in
    sym (nowhere (λ other. pointwise nat_eq other name) c.args.names.now []
    (λ k less. c.loop-place.invariant k [] (omega (arith, less, c.loop-place-test.false))))
