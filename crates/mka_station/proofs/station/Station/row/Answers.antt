use Rattle.std.proofs.Common.{sym, subst}
use Rattle.peer_lists.specs.Table.{Table, StandsFor as PeersStandFor}
use Rattle.mka_station.specs.Lives.{own, peers_of}
use Rattle.mka_station.proofs.station.Station.row.Goals as goal

pub returns-clause-row : goal.returns-clause-row
returns-clause-row c = λ m p s.
    c.row.ensures.row (own m) (peers_of m p)
    (subst (λ (x : Table). PeersStandFor (own m) x (peers_of m p)) (sym c.peers.ensures) s.peers)

pub returns-clause-past : goal.returns-clause-past
returns-clause-past c = λ m p s.
    c.row.ensures.past (own m) (peers_of m p)
    (subst (λ (x : Table). PeersStandFor (own m) x (peers_of m p)) (sym c.peers.ensures) s.peers)
