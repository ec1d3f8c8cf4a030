-- Which announcement of a member a life heard and accepted last (IEEE Std 802.1X, 9.4.3).
use Rattle.std.specs.Prelude.{◌≡◌, true, false, List, ◌∷◌, ◌++◌}
use Rattle.mkpdu_codec.specs.declared.announcement.Announcement.{Announcement}
use Rattle.mkpdu_codec.specs.declared.peer.Peer.{Peer}
use Rattle.mka_station.specs.Lives.{Member, Entry, heard}
use Rattle.mka_station.specs.Hearing.{outcome_of, is_accepted}

-- The last accepted announcement of the member that an entry of a peer list names: this life heard
-- it, it has the entry's number, and what was heard of that member since was dropped.
pub record IsLastHeard (m : Member) (p : List Entry) (entry : Peer) : Type 0 where
  pub since : List Entry
  pub last : Announcement
  pub before : List Entry
  pub whole : p ≡ since ++ heard last ∷ before
  pub member : last.mi ≡ entry.mi
  pub number : last.mn ≡ entry.mn
  pub accepted : is_accepted (outcome_of m before last) ≡ true
  pub stays : (newer : List Entry) (a : Announcement) (older : List Entry)
      → since ≡ newer ++ heard a ∷ older → a.mi ≡ entry.mi
      → is_accepted (outcome_of m (older ++ heard last ∷ before) a) ≡ false
