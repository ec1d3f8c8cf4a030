-- The history of one life of a station (IEEE Std 802.1X, clause 9), newest first, and what of it
-- its peer lists and its keys see.
use Rattle.std.specs.Prelude.{ℕ, Bool, List, [], ◌∷◌, ◌++◌, Option, Some, None, is_some}
use Rattle.lan_base.specs.declared.address.Mi.{Mi}
use Rattle.mkpdu_codec.specs.declared.announcement.Announcement.{Announcement}
use Rattle.server_election.specs.declared.candidate.Candidate.{Candidate}
use Rattle.server_election.specs.Election.{elected as elected_among}
use Rattle.peer_lists.specs.declared.heard.Heard.{Heard}
use Rattle.peer_lists.specs.Histories.{Peering, recent, ticked as peers_ticked, sent as peers_sent}
use Rattle.peer_lists.specs.Histories.{heard as peers_heard}
use Rattle.peer_lists.specs.Acceptance.{Own, Accepted}
use Rattle.peer_lists.specs.Listings.{listing}
use Rattle.peer_lists.specs.Peers.{says, hopes, known}
use Rattle.sak_exchange.specs.declared.due.Rekey.{Rekey}
use Rattle.sak_exchange.specs.declared.held_key.Key.{Key}
use Rattle.sak_exchange.specs.Histories.{Keying, ticked as keys_ticked}
use Rattle.sak_exchange.specs.Histories.{installed as keys_installed, began as keys_began}
use Rattle.std.specs.Prelude.{map}
use Rattle.std.specs.Prelude.{filter_map}
use Rattle.lan_base.specs.declared.address.Sci.{Sci}
use Rattle.lan_base.specs.declared.suite.Suite.{Suite}

-- What a station is set up with: its SCI and key server priority, from where on a key is spent, whether keys
-- that it makes give confidentiality and for which cipher suite they are, whether it has the key server flag
-- also while it has elected nobody, and what the group's connectivity association key gives: its name, the
-- key encrypting key and the integrity check key.
pub record Setup : Type 0 where
  pub sci : Sci
  pub priority : ℕ
  pub rekey : Rekey
  pub conf : Bool
  pub early_flag : Bool
  pub suite : Suite
  pub ckn : List ℕ
  pub kek : List ℕ
  pub ick : List ℕ

-- A station in one of its lives: what it is set up with, the member identifier of the life, and how
-- many keys it installed in earlier lives.
pub record Member : Type 0 where
  pub setup : Setup
  pub mi : Mi
  pub base : ℕ

-- A tick; an announcement that was sent; one that was heard in a frame with a right check value; a
-- key that was installed, with its roster where this life made it; a key that began, by its epoch.
pub data Entry : Type 0 where
  ticked : Entry
  sent : Announcement → Entry
  heard : Announcement → Entry
  installed : Option (List Mi) → Key → Entry
  began : ℕ → Entry

-- the station as a candidate
abbrev pub candidate : Member → Candidate
candidate m = record { mi = m.mi; sci = m.setup.sci; priority = m.setup.priority }

-- its two identifiers
abbrev pub own : Member → Own
own m = record { mi = m.mi; sci = m.setup.sci }

-- what an announcement tells a member, of which it is known which numbers it sent of late
abbrev pub told : Mi → (ℕ → Bool) → Announcement → Heard
told mi is_recent a =
    let l = listing mi is_recent (a.live ++ a.potential) in
    record {
      mi = a.mi;
      sci = a.sci;
      priority = a.priority;
      mn = a.mn;
      lists = l.lists;
      listed = l.listed;
      uses = a.uses;
    }

-- the history of the peer lists
unfoldable pub peers_of : Member → List Entry → List Peering
peers_of m [] = []
peers_of m (ticked ∷ p) = peers_ticked ∷ peers_of m p
peers_of m (sent a ∷ p) = peers_sent a.mn ∷ peers_of m p
peers_of m (heard a ∷ p) = let h = peers_of m p in peers_heard (told m.mi (recent h) a) ∷ h
peers_of m (installed r k ∷ p) = peers_of m p
peers_of m (began e ∷ p) = peers_of m p

-- what each live member says, in ascending order of member identifier
abbrev pub live_words : Member → List Peering → List Accepted
live_words m h = filter_map (says (own m) h) (known (own m) h)

-- what each potential member said last, in the same order
abbrev pub potential_words : Member → List Peering → List Accepted
potential_words m h = filter_map (hopes (own m) h) (known (own m) h)

-- a member as a candidate, by its own words
abbrev pub candidate_of : Accepted → Candidate
candidate_of a = record { mi = a.told.mi; sci = a.told.sci; priority = a.told.priority }

-- the server that is elected among the station and those that say this
abbrev pub elected_by : Member → List Accepted → Option Mi
elected_by m words = elected_among (candidate m) (map candidate_of words)

-- the elected server
unfoldable pub elected : Member → List Entry → Option Mi
elected m p = elected_by m (live_words m (peers_of m p))

-- the history of the keys: a tick is told with whether a server is elected after it
unfoldable pub keys_of : Member → List Entry → List Keying
keys_of m [] = []
keys_of m (ticked ∷ p) = keys_ticked (is_some (elected m (ticked ∷ p))) ∷ keys_of m p
keys_of m (sent a ∷ p) = keys_of m p
keys_of m (heard a ∷ p) = keys_of m p
keys_of m (installed r k ∷ p) = keys_installed r k ∷ keys_of m p
keys_of m (began e ∷ p) = keys_began e ∷ keys_of m p

-- the history at which the last announcement was sent
abbrev pub last_spoken : List Entry → Option (List Entry)
last_spoken [] = None
last_spoken (ticked ∷ p) = last_spoken p
last_spoken (sent a ∷ p) = Some p
last_spoken (heard a ∷ p) = last_spoken p
last_spoken (installed r k ∷ p) = last_spoken p
last_spoken (began e ∷ p) = last_spoken p
