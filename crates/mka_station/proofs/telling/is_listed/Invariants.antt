use Rattle.std.proofs.Common.{◌≡◌, ◌&&◌, List, take, false}
use Rattle.std.specs.List.{list_any}
use Rattle.lan_base.specs.Identifiers.{same_mi}
use Rattle.peer_lists.specs.Acceptance.{Own}
use Rattle.peer_lists.specs.Histories.{Peering, recent}
use Rattle.peer_lists.specs.Table.{StandsFor}
use Rattle.mka_station.proofs.telling.is_listed.Given as goal

abbrev pub invariant-loop-pair : goal.invariant-loop-pair
invariant-loop-pair l = (own : Own) (h : List Peering) → StandsFor own l.peers h → list_any (λ peer. same_mi peer.mi l.mi && recent h peer.mn) (take l.pair-index l.pairs) ≡ false
