use Rattle.std.proofs.Common.{◌==◌, length, sym, arith}
use Rattle.std.proofs.lemmas.Bool.{eq-eqb}
use Rattle.std.proofs.lemmas.List.Sums.{position_or_len_is}
use Rattle.cak_roll.proofs.members.position.Goals as goal

pub returns : goal.returns
returns c =
    sym (position_or_len_is (λ u. u == c.args.station) c.args.stations.now
    (length c.args.stations.now) 0 (omega arith)
    (λ k lt. c.loop-place.invariant k 0 (omega arith)) (λ lt. absurd (omega arith)))

pub returns-then-stations-place : goal.returns-then-stations-place
returns-then-stations-place c =
    sym (position_or_len_is (λ u. u == c.args.station) c.args.stations.now c.loop-place.place 0
    (omega arith) (λ k lt. c.loop-place.invariant k 0 (omega arith))
    (λ lt. eq-eqb _ _ c.if-stations-place.true))
