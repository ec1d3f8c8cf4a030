-- What a station does at a tick, stage by stage (IEEE Std 802.1X, clause 9; the order is this
-- profile's own).
use Rattle.std.specs.Prelude.{nat_lt, length, Bool, ◌&&◌, if◌then◌else◌, List, [], ◌∷◌, ◌++◌, Option, Some}
use Rattle.std.specs.Prelude.{None, is_none, option_map}
use Rattle.lan_base.specs.declared.address.Mi.{Mi}
use Rattle.lan_base.specs.Identifiers.{same_mi}
use Rattle.aes_block.specs.declared.secret.Secret.{Secret}
use Rattle.mkpdu_codec.specs.declared.announcement.Announcement.{Announcement}
use Rattle.sak_exchange.specs.declared.change.Change.{Change}
use Rattle.sak_exchange.specs.declared.due.Seen.{Seen}
use Rattle.sak_exchange.specs.declared.held_key.Key.{Key}
use Rattle.sak_exchange.specs.Histories.{Keying}
use Rattle.sak_exchange.specs.Beginning.{Beginning, leads}
use Rattle.sak_exchange.specs.Making.{makes, made_key, made_roster}
use Rattle.sak_exchange.specs.Outcomes.{dropping, retiring, beginning, installing}
use Rattle.mka_station.specs.declared.reaction.Reaction.{Reaction}
use Rattle.mka_station.specs.Lives.{Member, Entry, ticked, sent, installed, began}
use Rattle.mka_station.specs.Views.{View, view, reports, serves}
use Rattle.mka_station.specs.Announcing.{says_now, lowest_in, frame_of, same_option}

-- what a station does, and its history then
pub record Turn : Type 0 where
  pub reaction : Reaction
  pub past : List Entry

-- the elected server, where it is another than before
abbrev pub new_server : View → View → Option (Option Mi)
new_server before now =
    if same_option same_mi before.server now.server then None else Some now.server

-- what a tick ends: every key where no server is elected, or an old key whose time is over
abbrev pub ended : List Keying → Option Mi → List Change
ended h None = (dropping h).changes
ended h (Some server) = (retiring h).changes

-- the history with a beginning
abbrev pub with_beginning : Option Beginning → List Entry → List Entry
with_beginning None p = p
with_beginning (Some b) p = began b.key.epoch ∷ p

-- the latest key, where a station that serves begins it
abbrev pub led : Member → View → Option Beginning
led m v = if serves m v then leads v.keys (reports v.live) else None

-- whether a station that serves, and begins no key, makes one
abbrev pub makes_now : Member → View → Seen → Bool
makes_now m v seen =
    serves m v && (is_none (led m v)
    && makes v.keys (reports v.live) (nat_lt 0 (length v.potential)) seen m.setup.rekey)

-- the key that it makes of these octets
abbrev pub made : Member → View → Seen → Secret → Option Key
made m v seen sak =
    if makes_now m v seen then Some (made_key m.base m.mi v.keys m.setup.conf sak) else None

-- the history with an install
abbrev pub with_install : Option (List Mi) → Option Key → List Entry → List Entry
with_install roster None p = p
with_install roster (Some k) p = installed roster k ∷ p

-- what an install changes
abbrev pub install_changes : List Keying → Option (List Mi) → Option Key → List Change
install_changes h roster None = []
install_changes h roster (Some k) = (installing h roster k).changes

-- the history with an announcement
abbrev pub with_sent : Option Announcement → List Entry → List Entry
with_sent None p = p
with_sent (Some a) p = sent a ∷ p

-- the roster of the key that a tick makes
abbrev pub roster_at : Member → List Entry → Option (List Mi)
roster_at m p = Some (made_roster m.mi (reports (view m (ticked ∷ p)).live))

-- the history of a tick after the station led
abbrev pub begun_past : Member → List Entry → List Entry
begun_past m p = with_beginning (led m (view m (ticked ∷ p))) (ticked ∷ p)

-- after it made a key
abbrev pub ticked_past : Member → Seen → Secret → List Entry → List Entry
ticked_past m seen sak p =
    with_install (roster_at m p) (made m (view m (ticked ∷ p)) seen sak) (begun_past m p)

-- and what it says then, if it announces itself
abbrev pub says_at : Member → Seen → Secret → List Entry → Option Announcement
says_at m seen sak p =
    says_now m (lowest_in seen (view m p).keys) (ticked_past m seen sak p)
    (view m (ticked_past m seen sak p))

-- A tick: it counts, and the server is elected; keys are dropped or retired; the station leads, or
-- makes a key; it announces itself.
unfoldable pub tick_turn : Member → Seen → Secret → List Entry → Turn
tick_turn m seen sak p =
    let before = view m p in
    let now = view m (ticked ∷ p) in
    record {
      reaction = record {
        heard = None;
        server = new_server before now;
        changes = ended before.keys now.server ++ ((beginning now.keys (led m now)).changes
            ++ install_changes now.keys (roster_at m p) (made m now seen sak));
        sent = option_map (frame_of m.setup) (says_at m seen sak p);
      };
      past = with_sent (says_at m seen sak p) (ticked_past m seen sak p);
    }
