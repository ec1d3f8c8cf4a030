use Rattle.std.proofs.Common.{◌≡◌, false, [], ap, refl, subst}
use Rattle.lan_base.specs.declared.address.Mi.{Mi}
use Rattle.peer_lists.specs.Acceptance.{Own}
use Rattle.mka_station.specs.Lives.{Setup}
use Rattle.peer_lists.specs.Table.{StandsFor as PeersStandFor}
use Rattle.sak_exchange.specs.Standing.{StandsFor as KeysStandFor}
use Rattle.mka_station.specs.Standing.{drawn_mi}
use Rattle.mka_station.proofs.Starts.{stands-born}
use Rattle.mka_station.proofs.station.Station.start.Goals as goal

pub returns : goal.returns
returns c =
    let config = c.args.config in
    let mi = c.mi_of-mi.ensures in
    let sci = ap (λ (x : Setup). x.sci) c.config.view_is in
    let identity : record { mi = c.mi_of-mi.result; sci = c.config.inside.sci } ≡ record { mi = drawn_mi c.args.draw; sci = config.sci } = cc (mi, sci) in
    stands-born config c.args.epochs c.args.draw _ refl mi refl
    (subst (λ (o : Own). PeersStandFor o c.in_ok-peers.peers []) identity c.in_ok-peers.ensures)
    (subst (λ (x : Mi). KeysStandFor c.args.epochs x false c.in_ok-keys.keys []) mi c.in_ok-keys.ensures.stands)
    refl refl
