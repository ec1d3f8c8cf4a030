-- What the history of a life comes to at a moment. Every rule of the station is a function of this.
use Rattle.std.specs.Prelude.{Bool, false, List, Option, Some, None, map}
use Rattle.lan_base.specs.declared.address.Mi.{Mi}
use Rattle.lan_base.specs.Identifiers.{same_mi}
use Rattle.peer_lists.specs.Histories.{Peering}
use Rattle.peer_lists.specs.Acceptance.{Accepted}
use Rattle.sak_exchange.specs.Histories.{Keying}
use Rattle.sak_exchange.specs.declared.report.Report.{Report}
use Rattle.mka_station.specs.Lives.{Member, Entry, peers_of, keys_of, live_words, potential_words}
use Rattle.mka_station.specs.Lives.{elected_by}

-- the words of the live and of the potential members, the elected server, and the histories of
-- peers and keys
pub record View : Type 0 where
  pub live : List Accepted
  pub potential : List Accepted
  pub server : Option Mi
  pub peers : List Peering
  pub keys : List Keying

unfoldable pub view : Member → List Entry → View
view m p =
    let h = peers_of m p in
    let words = live_words m h in
    record {
      live = words;
      potential = potential_words m h;
      server = elected_by m words;
      peers = h;
      keys = keys_of m p;
    }

-- the members that say this
abbrev pub speakers : List Accepted → List Mi
speakers words = map (λ a. a.told.mi) words

-- what they say of their keys
abbrev pub reports : List Accepted → List Report
reports words = map (λ a. record { mi = a.told.mi; uses = a.told.uses }) words

-- whether this is the server
abbrev pub is_server : Option Mi → Mi → Bool
is_server None mi = false
is_server (Some server) mi = same_mi server mi

-- whether the station is its own elected server
abbrev pub serves : Member → View → Bool
serves m v = is_server v.server m.mi
