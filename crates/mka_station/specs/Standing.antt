-- What a station holds, and for which histories it stands: the only place that knows of rows and
-- countdowns.
use Rattle.std.specs.Prelude.{◌≡◌, ℕ, ◌+◌, ◌<◌, ◌^◌, false, List, drop, Option, option_map}
use Rattle.lan_base.specs.declared.address.Mi.{Mi}
use Rattle.peer_lists.specs.Histories.{clock}
use Rattle.peer_lists.specs.Table.{Table, StandsFor as PeersStandFor}
use Rattle.sak_exchange.specs.Histories.{install_count}
use Rattle.sak_exchange.specs.Standing.{State as Keys, StandsFor as KeysStandFor, ticks_since}
use Rattle.mka_station.specs.declared.shown.Spoken.{Spoken}
use Rattle.mka_station.specs.Lives.{Setup, Member, Entry, own, peers_of, keys_of, elected}
use Rattle.mka_station.specs.Lives.{last_spoken}
use Rattle.mka_station.specs.Views.{view}
use Rattle.mka_station.specs.Announcing.{shown}

-- what contracts see of a station
pub record State : Type 0 where
  pub setup : Setup
  pub mi : Mi
  pub epochs : ℕ
  pub peers : Table
  pub keys : Keys
  pub server : Option Mi
  pub spoken : Option Spoken

-- what is kept of the announcement that was sent behind a history
abbrev pub spoken_at : Member → List Entry → List Entry → Spoken
spoken_at m p then =
    record {
      shown = shown (view m then);
      since = ticks_since (clock (peers_of m p)) (clock (peers_of m then));
    }

-- A station stands for a history of a life: its peer lists and its keys stand for what the history
-- is to them, the server is the elected one, and what was shown is the history's.
pub record StandsFor (m : Member) (s : State) (p : List Entry) : Type 0 where
  pub setup : s.setup ≡ m.setup
  pub mi : s.mi ≡ m.mi
  pub epochs : s.epochs ≡ m.base + install_count (keys_of m p)
  pub peers : PeersStandFor (own m) s.peers (peers_of m p)
  pub keys : KeysStandFor m.base m.mi false s.keys (keys_of m p)
  pub server : s.server ≡ elected m p
  pub spoken : s.spoken ≡ option_map (spoken_at m p) (last_spoken p)

-- One more install and one more announcement can be counted.
pub record HasRoom (s : State) : Type 0 where
  pub installs : s.epochs + 1 < 2 ^ 32
  pub keys : s.keys.epochs + 1 < 2 ^ 32
  pub sent : s.peers.sent.last + 1 < 2 ^ 32

-- the member identifier that a draw gives: its last 12 octets
abbrev pub drawn_mi : List ℕ → Mi
drawn_mi draw = record { 0 = drop 4 draw }

-- the member that a life of this setup is, after so many installs in earlier lives
abbrev pub born : Setup → ℕ → List ℕ → Member
born setup epochs draw = record { setup = setup; mi = drawn_mi draw; base = epochs }

-- the member that the next life is
abbrev pub reborn : Member → List Entry → List ℕ → Member
reborn m p draw = born m.setup (m.base + install_count (keys_of m p)) draw
