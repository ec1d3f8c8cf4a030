use Rattle.std.proofs.Common.{◌≡◌, ◌∙◌, ℕ, ◌+◌, false, [], ap, sym, refl, subst}
use Rattle.lan_base.specs.declared.address.Mi.{Mi}
use Rattle.peer_lists.specs.Acceptance.{Own}
use Rattle.peer_lists.specs.Table.{StandsFor as PeersStandFor}
use Rattle.sak_exchange.specs.Histories.{install_count}
use Rattle.sak_exchange.specs.Standing.{StandsFor as KeysStandFor}
use Rattle.mka_station.specs.Lives.{Setup, keys_of}
use Rattle.mka_station.specs.Restart.{lost_server}
use Rattle.mka_station.specs.Standing.{State, StandsFor, drawn_mi}
use Rattle.mka_station.proofs.Starts.{stands-born, life-ends}
use Rattle.mka_station.proofs.station.Station.restart.Goals as goal

pub returns-clause-reaction : goal.returns-clause-reaction
returns-clause-reaction c = λ m p s.
    life-ends m c.args.self.now p c.lost-server.result c.in_ok-changes.changes s (c.lost-server.ensures ∙ ap lost_server c.server.ensures) (c.in_ok-changes.ensures m.base m.mi (keys_of m p) s.keys)

pub returns-clause-stands : goal.returns-clause-stands
returns-clause-stands c = λ m p s.
    let t = subst (λ (x : State). StandsFor m x p) (sym c.self.view_is) s in
    let epochs = m.base + install_count (keys_of m p) in
    let mi = c.mi_of-mi.ensures in
    let sci = c.sci.ensures ∙ ap (λ (x : Setup). x.sci) s.setup in
    let count = c.epochs.ensures ∙ s.epochs in
    let identity : record { mi = c.mi_of-mi.result; sci = c.sci.result } ≡ record { mi = drawn_mi c.args.draw; sci = m.setup.sci } = cc (mi, sci) in
    stands-born m.setup epochs c.args.draw _ t.setup mi t.epochs
    (subst (λ (o : Own). PeersStandFor o c.in_ok-peers.peers []) identity c.in_ok-peers.ensures)
    (subst (λ (n : ℕ). KeysStandFor n (drawn_mi c.args.draw) false c.in_ok-keys.keys []) count (subst (λ (x : Mi). KeysStandFor c.epochs.result x false c.in_ok-keys.keys []) mi c.in_ok-keys.ensures.stands))
    refl refl
