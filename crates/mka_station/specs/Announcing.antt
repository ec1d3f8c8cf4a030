-- When a station announces itself, and what it says (IEEE Std 802.1X, clauses 9 and 11). What is
-- compared with the last announcement is this profile's own rule.
use Rattle.std.specs.Prelude.{ℕ, ◌+◌, nat_le, ◌==◌, Bool, true, false, if◌then◌else◌, not, ◌&&◌}
use Rattle.std.specs.Prelude.{◌||◌, List}
use Rattle.std.specs.Prelude.{◌++◌, take, map, replicate, Option, Some, None, is_some, is_none}
use Rattle.std.specs.Prelude.{option_map}
use Rattle.std.specs.Prelude.{option_and_then, unwrap_or}
use Rattle.std.specs.List.{list_all, list_any}
use lib.Pointwise.{pointwise}
use Rattle.lan_base.specs.declared.address.Mi.{Mi}
use Rattle.lan_base.specs.declared.association_number.AssociationNumber.TheVariants.{An0}
use Rattle.lan_base.specs.declared.key_id.KeyId.{KeyId}
use Rattle.lan_base.specs.Identifiers.{same_mi}
use Rattle.lan_base.specs.Timers.{hello_time}
use Rattle.aes_block.specs.declared.secret.Secret.{Secret}
use Rattle.aes_block.specs.declared.secret.Secret.TheVariants.{S128, S256}
use Rattle.aes_cmac.specs.Cmac.{cmac}
use Rattle.key_wrap.specs.Wrap.{wrapped}
use Rattle.mkpdu_codec.specs.declared.announcement.Announcement.{Announcement}
use Rattle.mkpdu_codec.specs.declared.offset.ConfidentialityOffset.{ConfidentialityOffset}
use Rattle.mkpdu_codec.specs.declared.offset.ConfidentialityOffset.TheVariants as offsets
use Rattle.mkpdu_codec.specs.declared.given.Given.{Given}
use Rattle.mkpdu_codec.specs.declared.key_use.KeyUse.{KeyUse}
use Rattle.mkpdu_codec.specs.declared.key_use.Uses.{Uses}
use Rattle.mkpdu_codec.specs.declared.peer.Peer.{Peer}
use Rattle.mkpdu_codec.specs.Written.{written}
use Rattle.mkpdu_codec.specs.declared.wrapped_key.WrappedKey.{WrappedKey}
use Rattle.mkpdu_codec.specs.declared.wrapped_key.WrappedKey.TheVariants.{Aes128, Aes256}
use Rattle.peer_lists.specs.Histories.{clock, last_sent}
use Rattle.peer_lists.specs.Acceptance.{Accepted}
use Rattle.peer_lists.specs.Peers.{last_accepted}
use Rattle.sak_exchange.specs.declared.held_key.Key.{Key}
use Rattle.sak_exchange.specs.Histories.{Keying}
use Rattle.sak_exchange.specs.Held.{latest, old, transmitting}
use Rattle.sak_exchange.specs.Reports.{reports as is_reported}
use Rattle.sak_exchange.specs.Making.{is_in_roster}
use Rattle.sak_exchange.specs.Beginning.{is_latest_made}
use Rattle.sak_exchange.specs.declared.due.Seen.{Seen}
use Rattle.server_election.specs.Election.{may_serve}
use Rattle.mka_station.specs.Lives.{Setup, Member, Entry, own, candidate, last_spoken}
use Rattle.mka_station.specs.Views.{View, view, speakers, serves}

-- ---- when

-- What a change of calls for an announcement: who is live and who potential, the elected server,
-- and which keys are held and transmit.
pub record Shown : Type 0 where
  pub live : List Mi
  pub potential : List Mi
  pub server : Option Mi
  pub latest : Option KeyId
  pub old : Option KeyId
  pub transmitting : Option KeyId

-- the identifier of a key, where there is one
abbrev pub id_of : Option Key → Option KeyId
id_of k = option_map (λ k. k.id) k

-- what these live and potential members, this server and these keys show
abbrev pub shown_of : List Mi → List Mi → Option Mi → List Keying → Shown
shown_of live potential server h =
    record {
      live = live;
      potential = potential;
      server = server;
      latest = id_of (latest h);
      old = id_of (old h);
      transmitting = id_of (transmitting h);
    }

abbrev pub shown : View → Shown
shown v = shown_of (speakers v.live) (speakers v.potential) v.server v.keys

-- whether both are there and the same, or neither is
abbrev pub same_option : {A : Type 0} → (A → A → Bool) → Option A → Option A → Bool
same_option same None None = true
same_option same None (Some b) = false
same_option same (Some a) None = false
same_option same (Some a) (Some b) = same a b

-- whether two key identifiers are of one key server and one key number
abbrev pub same_key : KeyId → KeyId → Bool
same_key i j = same_mi i.server j.server && i.number == j.number

abbrev pub same_shown : Shown → Shown → Bool
same_shown s t =
    pointwise same_mi s.live t.live && (pointwise same_mi s.potential t.potential
    && (same_option same_mi s.server t.server && (same_option same_key s.latest t.latest
    && (same_option same_key s.old t.old
    && same_option same_key s.transmitting t.transmitting))))

-- whether a station announces itself now: it never did, the hello time has passed since, or what is
-- shown has changed since
abbrev pub is_due_since : Member → View → Option (List Entry) → Bool
is_due_since m v None = true
is_due_since m v (Some past) =
    let before = view m past in
    nat_le (clock before.peers + hello_time) (clock v.peers)
    || not (same_shown (shown v) (shown before))

abbrev pub announces : Member → View → List Entry → Bool
announces m v p = is_due_since m v (last_spoken p)

-- ---- what

-- a member with the number of its last accepted announcement
abbrev pub peer_of : Member → View → Accepted → Peer
peer_of m v a =
    let last = unwrap_or (last_accepted (own m) v.peers a.told.mi) a in
    record { mi = a.told.mi; mn = last.told.mn }

-- what is said of a key that is not held
abbrev pub no_use : KeyUse
no_use =
    record {
      server = record { 0 = replicate 12 0 };
      number = 0;
      an = An0;
      tx = false;
      rx = false;
      lowest = 0;
    }

-- what is said of a key, given which transmits and its lowest acceptable packet number
abbrev pub use_of : Option Key → (Key → ℕ) → Option Key → KeyUse
use_of sending lowest None = no_use
use_of sending lowest (Some k) =
    record {
      server = k.id.server;
      number = k.id.number;
      an = k.an;
      tx = same_option same_key (id_of sending) (Some k.id);
      rx = true;
      lowest = lowest k;
    }

-- the SAK Use of a latest key and an old one, where one of them is there
abbrev pub uses_with : Option Key → (Key → ℕ) → Option Key → Option Key → Option Uses
uses_with sending lowest newer older =
    if is_some newer || is_some older then Some (record {
      latest = use_of sending lowest newer;
      old = use_of sending lowest older;
    }) else None

-- the SAK Use, where a key is held
abbrev pub uses_of : (Key → ℕ) → List Keying → Option Uses
uses_of lowest h = uses_with (transmitting h) lowest (latest h) (old h)

-- whether the station gives its latest key: it serves and made the key in this life, each live
-- member is in the key's roster, and one of them does not report it
abbrev pub gives : Member → View → Key → Bool
gives m v k =
    serves m v && (is_latest_made v.keys && (list_all (is_in_roster v.keys) (speakers v.live)
    && list_any (λ a. not (is_reported k.id a.told.uses)) v.live))

-- the confidentiality offset: none, or that of 0 octets
abbrev pub offset : Key → ConfidentialityOffset
offset k = if k.conf then offsets.Octets0 else offsets.None

-- a SAK, wrapped under the key encrypting key
abbrev pub wrapped_key : List ℕ → Secret → WrappedKey
wrapped_key kek (S128 octets) = Aes128 (wrapped kek octets)
wrapped_key kek (S256 octets) = Aes256 (wrapped kek octets)

-- a key as it is given
abbrev pub given_as : List ℕ → Key → Given
given_as kek k =
    record { an = k.an; offset = offset k; number = k.id.number; key = wrapped_key kek k.sak }

-- the Distributed SAK
abbrev pub given : Member → View → Option Given
given m v =
    option_and_then (λ k. if gives m v k then Some (given_as m.setup.kek k) else None)
    (latest v.keys)

-- whether the key server flag is set: the station serves; or, where it is set up so, it has elected
-- nobody and may serve
abbrev pub is_flagged : Member → View → Bool
is_flagged m v =
    if m.setup.early_flag && (is_none v.server && may_serve (candidate m)) then true
    else serves m v

-- the announcement, given the lowest acceptable packet number under each key
abbrev pub announcement : Member → (Key → ℕ) → View → Announcement
announcement m lowest v =
    record {
      source = record { 0 = take 6 m.setup.sci.0 };
      priority = m.setup.priority;
      server = is_flagged m v;
      sci = m.setup.sci;
      mi = m.mi;
      mn = last_sent v.peers + 1;
      ckn = m.setup.ckn;
      live = map (peer_of m v) v.live;
      potential = map (peer_of m v) v.potential;
      uses = uses_of lowest v.keys;
      given = given m v;
      highs = None;
    }

-- what a station says now, if it announces itself
abbrev pub says_now : Member → (Key → ℕ) → List Entry → View → Option Announcement
says_now m lowest p v = if announces m v p then Some (announcement m lowest v) else None

-- the lowest acceptable packet number under a key: what a tick was shown for it, which then was the
-- latest key or the old one, and 1 for a key that is new
abbrev pub lowest_under : Option Key → Option Key → Seen → Key → ℕ
lowest_under newer older seen k =
    if same_option same_key (id_of newer) (Some k.id) then seen.latest
    else if same_option same_key (id_of older) (Some k.id) then seen.old
    else 1

abbrev pub lowest_in : Seen → List Keying → Key → ℕ
lowest_in seen before k = lowest_under (latest before) (old before) seen k

-- the frame of an announcement, with its check value
abbrev pub frame_of : Setup → Announcement → List ℕ
frame_of setup a = written a ++ cmac setup.ick (written a)
