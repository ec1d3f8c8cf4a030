use Rattle.std.proofs.Common.{◌≡◌, take}
use Rattle.std.specs.List.{find}
use Rattle.std.specs.Option.{option_or}
use Rattle.peer_lists.specs.Acceptance.{Own, first_number}
use Rattle.peer_lists.specs.Histories.{Peering, recent}
use Rattle.peer_lists.specs.Listings.{numbers_of}
use Rattle.peer_lists.specs.Table.{StandsFor}
use Rattle.std.proofs.Common.{List}
use Rattle.mka_station.proofs.telling.named.Given as goal

abbrev pub invariant-loop-pair : goal.invariant-loop-pair
invariant-loop-pair l = record {
  first : l.naming.first ≡ option_or l.fn.before.first (first_number (numbers_of l.mi (take l.pair-index l.pairs)));
  recent : (own : Own) (h : List Peering) → StandsFor own l.peers h → l.naming.recent ≡ option_or l.fn.before.recent (find (recent h) (numbers_of l.mi (take l.pair-index l.pairs)));
}
