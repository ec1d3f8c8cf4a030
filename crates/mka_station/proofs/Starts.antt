-- A life that begins, and one that ends.
use Rattle.std.proofs.Common.{◌≡◌, ◌∙◌, ℕ, false, List, [], Option, None, refl, ap, sym, subst, arith}
use Rattle.lan_base.specs.declared.address.Mi.{Mi}
use Rattle.peer_lists.specs.Acceptance.{accepted}
use Rattle.peer_lists.specs.Histories.{Peering}
use Rattle.peer_lists.specs.Peers.{known}
use Rattle.peer_lists.specs.Table.{StandsFor as PeersStandFor}
use Rattle.sak_exchange.specs.declared.change.Change.{Change}
use Rattle.sak_exchange.specs.Histories.{Keying, install_count}
use Rattle.sak_exchange.specs.Outcomes.{dropping}
use Rattle.sak_exchange.specs.Standing.{StandsFor as KeysStandFor}
use Rattle.mka_station.specs.Lives.{Setup, Member, Entry, own, peers_of, keys_of, elected}
use Rattle.mka_station.specs.Views.{view}
use Rattle.mka_station.specs.Restart.{ending, lost_server}
use Rattle.mka_station.specs.Standing.{State, StandsFor, drawn_mi, born}
use Rattle.mka_station.proofs.Pasts.{keys-none, peers-none, view-keys, view-server}

none-elected : (m : Member) → None ≡ elected m []
unfolding elected known accepted peers_of
none-elected m = refl

pub stands-born : (setup : Setup) (epochs : ℕ) (draw : List ℕ) (s : State) → s.setup ≡ setup → s.mi ≡ drawn_mi draw → s.epochs ≡ epochs
    → PeersStandFor (record { mi = drawn_mi draw; sci = setup.sci }) s.peers [] → KeysStandFor epochs (drawn_mi draw) false s.keys []
    → s.server ≡ None → s.spoken ≡ None
    → StandsFor (born setup epochs draw) s []
stands-born setup epochs draw s setup_is mi_is epochs_is peers keys server spoken =
    let m = born setup epochs draw in
    let p = subst (λ (h : List Peering). PeersStandFor (own m) s.peers h) (sym (peers-none m)) peers in
    let k = subst (λ (h : List Keying). KeysStandFor epochs (drawn_mi draw) false s.keys h) (sym (keys-none m)) keys in
    let none : install_count (keys_of m []) ≡ 0 = ap install_count (keys-none m) in
    record {
      setup = setup_is;
      mi = mi_is;
      epochs = omega (arith, epochs_is, none);
      peers = p;
      keys = k;
      server = server ∙ none-elected m;
      spoken = spoken;
    }

ends-is : (m : Member) (p : List Entry) → record { heard = None; server = lost_server (view m p).server; changes = (dropping (view m p).keys).changes; sent = None } ≡ ending m p
unfolding ending
ends-is m p = refl

pub life-ends : (m : Member) (s : State) (p : List Entry) (server : Option (Option Mi)) (changes : List Change) → StandsFor m s p → server ≡ lost_server s.server → changes ≡ (dropping (keys_of m p)).changes
    → record { heard = None; server = server; changes = changes; sent = None } ≡ ending m p
life-ends m s p server changes stands server_is changes_is =
    rw (server_is, stands.server ∙ sym (view-server m p), changes_is, sym (view-keys m p)) (ends-is m p)
