use Rattle.std.proofs.Common.{◌≡◌, ◌∙◌, ◌+◌, ◌<◌, false, is_some, option_map, List, Option, None, ap, sym, refl, subst, arith}
use Rattle.peer_lists.specs.Histories.{Peering, last_sent}
use Rattle.peer_lists.specs.Table.{Table, StandsFor as PeersStandFor}
use Rattle.sak_exchange.specs.Histories.{Keying}
use Rattle.sak_exchange.specs.Standing.{State as Keys, StandsFor as KeysStandFor}
use Rattle.mkpdu_codec.specs.declared.announcement.Announcement.{Announcement}
use Rattle.mka_station.specs.Lives.{own, peers_of, keys_of}
use Rattle.mka_station.specs.Views.{view}
use Rattle.mka_station.specs.Announcing.{shown}
use Rattle.mka_station.specs.Tick.{with_sent, ticked_past, says_at}
use Rattle.mka_station.specs.Standing.{State}
use Rattle.mka_station.specs.inside.Turns.{spoken_after}
use Rattle.mka_station.proofs.PeerViews.{ahead-passed}
use Rattle.mka_station.proofs.Counts.{counted-epochs}
use Rattle.mka_station.proofs.Ticks.{sent-peers, stands-ticked}
use Rattle.mka_station.proofs.station.Station.pass_quietly.Goals as goal

pub invariant_of-self : goal.invariant_of-self
invariant_of-self c =
    let i = c.self.inside in
    c.pass.ensures i.config i.mi (ahead-passed i.config i.mi i.peers c.pass_peers.new.peers i.peer_view c.self.invariant c.pass_peers.ensures.shown)

pub returns-clause-stands : goal.returns-clause-stands
returns-clause-stands c = λ m p any seen serving s t.
    let now = c.args.self.now in
    let one = c.note_spoken.ensures in
    let was = c.self.view_is in
    let q = ticked_past m seen any p in
    let said = says_at m seen any p in
    let last = s.peers.last in
    let few : last_sent (peers_of m p) + 1 < 4294967296 = omega (arith, last, c.requires.room.sent) in
    let sent : false ≡ is_some said = sym (ap (λ (a : Option Announcement). is_some a) t.silent) in
    let p0 = subst (λ (x : Table). PeersStandFor (own m) x (peers_of m p)) (sym (ap (λ (x : State). x.peers) was)) s.peers in
    let p1 = subst (λ (h : List Peering). PeersStandFor (own m) c.pass_peers.new.peers h) (sent-peers m seen any p false sent) (c.pass_peers.ensures.stands (own m) (peers_of m p) p0 few) in
    let k0 = subst (λ (x : Keys). KeysStandFor m.base m.mi false x (keys_of m p)) (sym (ap (λ (x : State). x.keys) was)) s.keys in
    let k1 = subst (λ (h : List Keying). KeysStandFor m.base m.mi false c.pass_still.new.self h) (sym t.keys) (c.pass_still.ensures.stands serving m.base m.mi (keys_of m p) k0 t.still) in
    stands-ticked m now c.note_spoken.new.self p seen any false s (sym t.unmade)
    (ap (λ (x : State). x.setup) one ∙ ap (λ (x : State). x.setup) was)
    (ap (λ (x : State). x.mi) one ∙ ap (λ (x : State). x.mi) was)
    (ap (λ (x : State). x.epochs) one ∙ ap (λ (x : State). x.epochs) was ∙ counted-epochs false false now.epochs refl c.requires.room.installs)
    (subst (λ (x : Table). PeersStandFor (own m) x (peers_of m (with_sent said q))) (sym (ap (λ (x : State). x.peers) one)) p1)
    (subst (λ (x : Keys). KeysStandFor m.base m.mi false x (keys_of m q)) (sym (ap (λ (x : State). x.keys) one)) k1)
    (ap (λ (x : State). x.server) one ∙ ap (λ (x : State). x.server) was ∙ s.server ∙ sym t.server)
    (ap (λ (x : State). x.spoken) one ∙ ap (λ (x : State). spoken_after x.spoken None) was ∙ ap (λ (a : Option Announcement). spoken_after now.spoken (option_map (λ x. shown (view m q)) a)) (sym t.silent))
