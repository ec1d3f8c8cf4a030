use Rattle.std.proofs.Common.{◌≡◌, ◌∙◌, ◌+◌, ◌<◌, min, cond, false, is_some, List, ap, sym, refl, subst, arith}
use Rattle.peer_lists.specs.Histories.{Peering, last_sent}
use Rattle.peer_lists.specs.Table.{Table, StandsFor as PeersStandFor}
use Rattle.sak_exchange.specs.Standing.{State as Keys, StandsFor as KeysStandFor}
use Rattle.mka_station.specs.Lives.{own, peers_of, keys_of}
use Rattle.mka_station.specs.Views.{view}
use Rattle.mka_station.specs.Announcing.{shown}
use Rattle.mka_station.specs.Tick.{with_sent, ticked_past, says_at}
use Rattle.mka_station.specs.Standing.{State}
use Rattle.mka_station.specs.inside.Turns.{spoken_after}
use Rattle.mka_station.proofs.PeerViews.{ahead-passed}
use Rattle.mka_station.proofs.Counts.{counted-epochs}
use Rattle.mka_station.proofs.Ticks.{sent-peers, some-framed, stands-ticked}
use Rattle.mka_station.proofs.station.Station.pass.Goals as goal

pub invariant_of-self : goal.invariant_of-self
invariant_of-self c =
    let i = c.self.inside in
    c.pass.ensures i.config i.mi (ahead-passed i.config i.mi i.peers c.pass_peers.new.peers i.peer_view c.self.invariant c.pass_peers.ensures.shown)

pub returns-clause-stands : goal.returns-clause-stands
returns-clause-stands c = λ m p any seen s made t.
    let now = c.args.self.now in
    let shows = c.args.ticked.shown in
    let one = c.note_spoken.ensures in
    let two = c.settle.ensures in
    let was = c.self.view_is in
    let q = ticked_past m seen any p in
    let said = says_at m seen any p in
    let last = s.peers.last in
    let few : last_sent (peers_of m p) + 1 < 4294967296 = omega (arith, last, c.requires.room.sent) in
    let sent : c.is_some.result ≡ is_some said = c.is_some.ensures ∙ some-framed (λ a. shown (view m q)) said shows t.shown in
    let p0 = subst (λ (x : Table). PeersStandFor (own m) x (peers_of m p)) (sym (ap (λ (x : State). x.peers) was)) s.peers in
    let p1 = subst (λ (h : List Peering). PeersStandFor (own m) c.pass_peers.new.peers h) (sent-peers m seen any p c.is_some.result sent) (c.pass_peers.ensures.stands (own m) (peers_of m p) p0 few) in
    stands-ticked m now c.note_spoken.new.self p seen any c.args.installs s made
    (ap (λ (x : State). x.setup) one ∙ ap (λ (x : State). x.setup) two ∙ ap (λ (x : State). x.setup) was)
    (ap (λ (x : State). x.mi) one ∙ ap (λ (x : State). x.mi) two ∙ ap (λ (x : State). x.mi) was)
    (ap (λ (x : State). x.epochs) one ∙ ap (λ (x : State). x.epochs) two ∙ ap (λ (x : State). cond c.args.installs (min (x.epochs + 1) 4294967295) x.epochs) was ∙ counted-epochs c.args.installs c.args.installs now.epochs refl c.requires.room.installs)
    (subst (λ (x : Table). PeersStandFor (own m) x (peers_of m (with_sent said q))) (sym (ap (λ (x : State). x.peers) one ∙ ap (λ (x : State). x.peers) two)) p1)
    (subst (λ (x : Keys). KeysStandFor m.base m.mi false x (keys_of m q)) (sym (ap (λ (x : State). x.keys) one ∙ ap (λ (x : State). x.keys) two)) t.keys)
    (ap (λ (x : State). x.server) one ∙ ap (λ (x : State). x.server) two ∙ t.server)
    (ap (λ (x : State). x.spoken) one ∙ ap (λ (x : State). spoken_after x.spoken shows) two ∙ ap (λ (x : State). spoken_after x.spoken shows) was ∙ ap (spoken_after now.spoken) t.shown)
