use Rattle.std.proofs.Common.{◌≡◌, [], true, nat_eq, get_or, length, sym, ◌∙◌}
use Rattle.std.proofs.Common.{arith}
use Rattle.std.specs.Cmp.Lexicographic.{pointwise}
use Rattle.std.proofs.lemmas.List.Sums.{position_or_len_is}
use Rattle.trace_acts.proofs.names.position.Goals as goal

pub returns-then-eq : goal.returns-then-eq
returns-then-eq c =
    let here : pointwise nat_eq c.args.name.now
    (get_or c.args.names.now c.loop-place.place c.index-names-place.result) ≡ true =
    rw (← c.index-names-place.is, ← c.octets.ensures.value, ← c.octets-in-loop-place.ensures.value)
    (sym c.eq.ensures ∙ c.if-eq.true) in
    sym (position_or_len_is (pointwise nat_eq c.args.name.now) c.args.names.now c.loop-place.place
    c.index-names-place.result (omega arith)
    (λ k lt. c.loop-place.invariant k c.index-names-place.result (omega arith)) (λ lt. here))

pub returns : goal.returns
returns c =
    sym (position_or_len_is (pointwise nat_eq c.args.name.now) c.args.names.now
    (length c.args.names.now) [] (omega arith)
    (λ k lt. c.loop-place.invariant k [] (omega arith)) (λ lt. absurd (omega arith)))
