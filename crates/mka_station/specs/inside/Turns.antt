-- Steps of a turn, by what the code has.
use lib.Pointwise.{pointwise}
use Rattle.aes_cmac.specs.Cmac.{cmac}
use Rattle.mkpdu_codec.specs.declared.refusal.Refusal.{Refusal}
use Rattle.mkpdu_codec.specs.Reading.{reading}
use Rattle.mka_station.specs.declared.verdict.DropReason.{DropReason}
use Rattle.mka_station.specs.declared.verdict.DropReason.TheVariants.{Unspelled, CkName, Check}
use Rattle.std.specs.Prelude.{◌≡◌, nat_eq, not, Err, ℕ, Bool, true, false, if◌then◌else◌, ◌&&◌, List, ◌∷◌}
use Rattle.std.specs.Prelude.{Option, Some, None, option_map, option_and_then, Result, IsTrue}
use Rattle.std.specs.List.{list_any}
use Rattle.lan_base.specs.declared.address.Mi.{Mi}
use Rattle.lan_base.specs.Identifiers.{same_mi}
use Rattle.aes_block.specs.declared.secret.Secret.{Secret}
use Rattle.mkpdu_codec.specs.declared.announcement.Announcement.{Announcement}
use Rattle.peer_lists.specs.declared.heard.Outcome.{Outcome}
use Rattle.peer_lists.specs.Histories.{Peering, sent, recent}
use Rattle.sak_exchange.specs.declared.held_key.Key.{Key}
use Rattle.sak_exchange.specs.Histories.{Keying, installed}
use Rattle.sak_exchange.specs.Beginning.{Beginning, follows}
use Rattle.sak_exchange.specs.Making.{made_key}
use Rattle.sak_exchange.specs.Taking.{taken}
use Rattle.sak_exchange.specs.Unwrapping.{given_sak}
use Rattle.sak_exchange.specs.declared.offer.Offer.{Offer}
use Rattle.sak_exchange.specs.declared.change.Why.{Why}
use Rattle.mka_station.specs.declared.saying.Lowest.{Lowest}
use Rattle.mka_station.specs.declared.shown.Spoken.{Spoken}
use Rattle.mka_station.specs.Views.{is_server}
use Rattle.mka_station.specs.Announcing.{Shown, uses_of}
use Rattle.mka_station.specs.Hearing.{is_accepted, is_vouched}
use Rattle.mka_station.specs.Standing.{State}
use Rattle.mka_station.specs.inside.Due.{shown_by, is_due_after, one_later}
use Rattle.mka_station.specs.inside.Found.{Found}
use Rattle.mka_station.specs.inside.Saying.{lowest_by, given_after, announced_by}
use Rattle.sak_exchange.specs.declared.change.Change.{Change}
use Rattle.sak_exchange.specs.declared.change.Change.TheVariants.{Dropped, Retired, Began}
use Rattle.sak_exchange.specs.declared.change.Change.TheVariants.{Installed, Untaken}

-- whether a change is an install
abbrev pub is_install : Change → Bool
is_install (Dropped k) = false
is_install (Retired k) = false
is_install (Began k cause) = false
is_install (Installed k) = true
is_install (Untaken id why) = false

-- what a station says at a tick that finds this, given the lowest acceptable packet numbers and the
-- history of its keys
abbrev pub said_by : State → Found → ℕ → Lowest → List Keying → Option Announcement
said_by s c mn lowest h =
    if is_due_after s.spoken (shown_by c.rows c.server h)
    then Some (announced_by s c mn (uses_of (lowest_by lowest) h)
    (given_after s.setup.kek (is_server c.server s.mi) c.reports h))
    else None

-- the history of the peer lists, with an announcement where one is sent
abbrev pub peers_with : Option Announcement → List Peering → List Peering
peers_with None h = h
peers_with (Some a) h = sent a.mn ∷ h

-- what is offered by an announcement that came to this
abbrev pub offered_by : Outcome → List Peering → Mi → Option Mi → Announcement → Option Offer
offered_by o h mi server a =
    if is_accepted o then option_map (λ g. record {
      given = g;
      server = a.mi;
      listed = list_any (λ peer. same_mi peer.mi mi && recent h peer.mn) a.live;
      elected = is_server server a.mi;
    }) a.given else None

-- what an offer comes to
abbrev pub answered : ℕ → List ℕ → List Keying → Option Offer → Option (Result Key Why)
answered base kek h offer = option_map (λ o. taken base h o (given_sak kek o.given.key)) offer

-- the history of the keys with a key that is taken
abbrev pub keys_with : Option Key → List Keying → List Keying
keys_with None h = h
keys_with (Some k) h = installed None k ∷ h

-- the key that begins as a station follows its server
abbrev pub followed_by : Outcome → Option Mi → Announcement → List Keying → Option Beginning
followed_by o server a h =
    if is_vouched o && is_server server a.mi then option_and_then (follows h) a.uses else None

-- a key that was made, where one was
abbrev pub made_by : ℕ → Mi → List Keying → Bool → Option Secret → Option Key
made_by base own h conf None = None
made_by base own h conf (Some sak) = Some (made_key base own h conf sak)

-- the history of the keys with a key that is made
abbrev pub keys_made : Option (List Mi) → Option Key → List Keying → List Keying
keys_made roster None h = h
keys_made roster (Some k) h = installed roster k ∷ h

-- what was kept of what was shown, one tick later
abbrev pub spoken_later : Option Spoken → Option Spoken
spoken_later None = None
spoken_later (Some s) = Some (record s { since = one_later s.since })

-- what is kept after a tick, at which this is shown in an announcement, or none is sent
abbrev pub spoken_after : Option Spoken → Option Shown → Option Spoken
spoken_after before (Some shown) = Some (record { shown = shown; since = 0 })
spoken_after before None = spoken_later before

-- a SAK is there only where a key is due
abbrev pub IsDue : Option Secret → Bool → Type 0
IsDue None due = Unit {0}
IsDue (Some sak) due = IsTrue due

-- why an announcement that octets spell is not of the group of this name and integrity check key, if
-- it is not
abbrev pub fault_of : List ℕ → List ℕ → Announcement → List ℕ → List ℕ → Option DropReason
fault_of ckn ick a covered check =
    if not (pointwise nat_eq a.ckn ckn) then Some CkName
    else if not (pointwise nat_eq check (cmac ick covered)) then Some Check
    else None

-- a frame is refused in reading, and this is why
abbrev pub IsRefused : List ℕ → DropReason → Type 0
IsRefused frame reason = (r : Refusal) × (reading frame ≡ Err r) × (reason ≡ Unspelled r)
