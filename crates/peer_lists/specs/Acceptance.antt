-- Which heard announcements are accepted, and which of them are vouched (IEEE Std 802.1X, 9.4.2).
use Rattle.std.specs.Prelude.{⊤, ℕ, Bool, if◌then◌else◌, not, ◌&&◌, ◌||◌, List, [], ◌∷◌, map, length, nat_le, max, Option, Some, None, unwrap_or, option_map}
use Rattle.std.specs.List.{list_any, filter}
use Rattle.std.specs.Option.{option_or}
use Rattle.std.specs.declared.cmp.Ordering.TheVariants.{Less, Equal, Greater}
use Rattle.lan_base.specs.declared.address.Mi.{Mi}
use Rattle.lan_base.specs.declared.address.Sci.{Sci}
use Rattle.peer_lists.specs.declared.heard.Heard.{Heard}
use Rattle.peer_lists.specs.declared.heard.PeerRefusal.{PeerRefusal}
use Rattle.peer_lists.specs.declared.heard.PeerRefusal.TheVariants.{Echo, OldNumber, PeersFull}
use Rattle.peer_lists.specs.declared.heard.Outcome.{Outcome}
use Rattle.peer_lists.specs.declared.heard.Outcome.TheVariants.{Vouched, Unvouched, Dropped}
use Rattle.lan_base.specs.Identifiers.{same_mi, same_sci, order}
use Rattle.peer_lists.specs.Histories.{Peering, ticked, sent, heard, clock, is_young, recent}

-- the identifiers of the station itself
pub record Own : Type 0 where
  pub mi : Mi
  pub sci : Sci

-- an accepted announcement: at which tick count it came, what it told, and whether it was vouched
-- then
pub record Accepted : Type 0 where
  pub at : ℕ
  pub told : Heard
  pub vouched : Bool

-- whether an accepted announcement is of this member and younger than the life time
abbrev pub is_young_of : ℕ → Mi → Accepted → Bool
is_young_of now m a = same_mi a.told.mi m && is_young now a.at

-- the identifier in its place among ascending ones, where each stands once
abbrev pub put_in : Mi → List Mi → List Mi
put_in m [] = m ∷ []
put_in m (n ∷ ns) =
    elim (order m n) [ Less ↦ m ∷ n ∷ ns | Equal ↦ n ∷ ns | Greater ↦ n ∷ put_in m ns ]

-- the identifiers of a list in ascending order, each once
abbrev pub ascending : List Mi → List Mi
ascending [] = []
ascending (m ∷ ms) = put_in m (ascending ms)

-- the members with an accepted announcement younger than the life time, ascending
abbrev pub members : ℕ → List Accepted → List Mi
members now past = ascending (map (λ a. a.told.mi) (filter (λ a. is_young now a.at) past))

-- the greatest of the numbers
abbrev pub greatest : List ℕ → Option ℕ
greatest [] = None
greatest (n ∷ ns) = Some (max n (unwrap_or (greatest ns) 0))

-- the first of a list
abbrev pub first_number : List ℕ → Option ℕ
first_number [] = None
first_number (n ∷ ns) = Some n

-- Echo: the announcement has the station's own member identifier or its own SCI.
abbrev pub echo : Own → Heard → Option PeerRefusal
echo own x =
    if same_mi x.mi own.mi || same_sci x.sci own.sci then Some Echo else None

-- the message numbers of a member's young accepted announcements, newest first
abbrev pub young_numbers : ℕ → Mi → List Accepted → List ℕ
young_numbers now m past = map (λ a. a.told.mn) (filter (is_young_of now m) past)

-- Old number: some young accepted announcements of the same member have a message number that is
-- not less. The greatest such number is told.
abbrev pub old_number : ℕ → List Accepted → Heard → Option PeerRefusal
old_number now past x =
    option_map OldNumber (greatest (filter (nat_le x.mn) (young_numbers now x.mi past)))

-- how many members are remembered at once
abbrev pub most_peers : ℕ
most_peers = 64

-- Peers full: as many other members as there is room for have a young accepted announcement, and
-- this one has none.
abbrev pub peers_full : ℕ → List Accepted → Heard → Option PeerRefusal
peers_full now past x =
    let others = filter (λ m. not (same_mi m x.mi)) (members now past) in
    if nat_le most_peers (length others) && not (list_any (is_young_of now x.mi) past)
    then Some PeersFull else None

-- the first reason that there is to drop the announcement
unfoldable pub refusal : Own → ℕ → List Accepted → Heard → Option PeerRefusal
refusal own now past x =
    option_or (echo own x) (option_or (old_number now past x) (peers_full now past x))

-- whether an announcement lists the station under a message number that this life sent less than
-- the life time ago
abbrev pub vouches : List Peering → Heard → Bool
vouches h x = x.lists && recent h x.listed

-- The accepted announcements, newest first. Each is judged by what happened before it.
unfoldable pub accepted : Own → List Peering → List Accepted
accepted own [] = []
accepted own (ticked ∷ h) = accepted own h
accepted own (sent n ∷ h) = accepted own h
accepted own (heard x ∷ h) =
    elim (refusal own (clock h) (accepted own h) x) [
      | None ↦ record { at = clock h; told = x; vouched = vouches h x } ∷ accepted own h
      | Some reason ↦ accepted own h
    ]

-- what hearing an announcement after this history comes to
unfoldable pub outcome : Own → List Peering → Heard → Outcome
outcome own h x =
    elim (refusal own (clock h) (accepted own h) x) [
      | None ↦ if vouches h x then Vouched else Unvouched
      | Some reason ↦ Dropped reason
    ]

-- the answer is a drop
abbrev pub IsDropped : Outcome → Type 0
IsDropped Vouched = ⊥
IsDropped Unvouched = ⊥
IsDropped (Dropped reason) = ⊤
