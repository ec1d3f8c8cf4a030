use Rattle.std.proofs.Common.{◌≡◌, false, take, Some}
use Rattle.std.specs.List.{list_any}
use Rattle.lan_core.specs.inside.Repeats.{begins_at}
use Rattle.lan_core.proofs.air.Air.any_begins.Given as goal

abbrev pub invariant-loop-place : goal.invariant-loop-place
invariant-loop-place l =
    list_any (λ place. begins_at l.self l.octets (Some place)) (take l.place-index l.places) ≡ false
