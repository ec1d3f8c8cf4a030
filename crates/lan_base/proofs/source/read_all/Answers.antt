use Rattle.std.proofs.Common.{◌≡◌, ◌+◌, ◌++◌, length, take, arith}
use Rattle.std.proofs.lemmas.Result.{err_from_is_err_and}
use Rattle.lan_base.proofs.Moves.{before-next, length-next}
use Rattle.lan_base.proofs.source.read_all.Goals as goal

pub returns-then-limit-len-clause-past : goal.returns-then-limit-len-clause-past
returns-then-limit-len-clause-past g c =
    let octets = c.loop-octets.octets in
    let count = c.in_ok-count.count in
    let into = c.read.new.into in
    let longer : length (octets ++ take count into) ≡ length octets + count = length-next octets into count c.in_ok-count.ensures.fits in
    λ _. (octets ++ take count into, omega (arith, longer), before-next _ octets (take count into) c.loop-octets.invariant.all c.in_ok-count.ensures.moved)

pub returns-in_err-extend-clause-not_past : goal.returns-in_err-extend-clause-not_past
returns-in_err-extend-clause-not_past g c =
    let octets = c.loop-octets.octets in
    let count = c.in_ok-count.count in
    let into = c.read.new.into in
    let longer : length (octets ++ take count into) ≡ length octets + count = length-next octets into count c.in_ok-count.ensures.fits in
    let p = err_from_is_err_and c.from_residual-in_err-extend.result c.from_residual-in_err-extend.ensures.1 in
    rw p.1 (λ _. (octets ++ take count into, omega (arith, longer), before-next _ octets (take count into) c.loop-octets.invariant.all c.in_ok-count.ensures.moved))
