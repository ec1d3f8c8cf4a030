-- How the rows of the table change with each call (this profile's own rule).
use Rattle.std.specs.Prelude.{ℕ, Bool, false, if◌then◌else◌, ◌&&◌, ◌||◌, List, [], ◌∷◌, Option, Some, None, option_map, map, nat_lt, nat_le, slice_index_or, slice_set, length, Result, Ok, Err}
use Rattle.std.specs.List.{insert}
use Rattle.std.specs.declared.cmp.Ordering.TheVariants.{Less, Equal, Greater}
use Rattle.lan_base.specs.declared.address.Sci.{Sci}
use Rattle.peer_lists.specs.declared.heard.Heard.{Heard}
use Rattle.peer_lists.specs.declared.remembered.Words.{Words}
use Rattle.peer_lists.specs.declared.remembered.Remembered.{Remembered}
use Rattle.lan_base.specs.Identifiers.{same_mi, same_sci, order}
use Rattle.lan_base.specs.Timers.{life_time}
use Rattle.peer_lists.specs.Acceptance.{most_peers}
use Rattle.peer_lists.specs.declared.heard.PeerRefusal.{PeerRefusal}
use Rattle.peer_lists.specs.declared.heard.PeerRefusal.TheVariants.{OldNumber, PeersFull}
use Rattle.peer_lists.specs.Table.{member}

-- words of an announcement that has just come
abbrev pub fresh : Heard → Words
fresh x = record { told = x; left = life_time; displaced = false }

-- words after a vouched announcement of another member under an SCI: displaced, if it is theirs
abbrev pub displaced_under : Sci → Words → Words
displaced_under s w = record w { displaced = same_sci s w.told.sci || w.displaced }

-- a peer after a vouched announcement
abbrev pub displaced_peer : Heard → Remembered → Remembered
displaced_peer x p =
    if same_mi p.last.told.mi x.mi then p else record {
      last = displaced_under x.sci p.last;
      vouched = option_map (displaced_under x.sci) p.vouched;
    }

-- whether the last words or the vouched ones of a peer have an SCI
abbrev pub has_sci : Sci → Remembered → Bool
has_sci s p =
    elim p.vouched [
      | Some w ↦ same_sci s p.last.told.sci || same_sci s w.told.sci
      | None ↦ same_sci s p.last.told.sci
    ]

-- a peer that was heard for the first time
abbrev pub introduced : Bool → Heard → Remembered
introduced vouched x =
    record { last = fresh x; vouched = if vouched then Some (fresh x) else None }

-- a peer that was heard again
abbrev pub renewed : Bool → Heard → Remembered → Remembered
renewed vouched x p =
    record { last = fresh x; vouched = if vouched then Some (fresh x) else p.vouched }

-- the rows with this one in its place, which that of its member gives up
abbrev pub put : Remembered → List Remembered → List Remembered
put r [] = r ∷ []
put r (p ∷ ps) =
    elim (order (member r) (member p)) [
      | Less ↦ r ∷ p ∷ ps
      | Equal ↦ r ∷ ps
      | Greater ↦ p ∷ put r ps
    ]

-- the rows after a vouched announcement
abbrev pub displaced_rows : Heard → List Remembered → List Remembered
displaced_rows x ps = map (displaced_peer x) ps

-- the rows after an accepted announcement, given where its member's row stands, or else where it
-- belongs
abbrev pub heard_at : Result ℕ ℕ → Bool → Heard → List Remembered → List Remembered
heard_at (Ok at) vouched x ps =
    slice_set ps at (renewed vouched x (slice_index_or ps at (introduced vouched x)))
heard_at (Err at) vouched x ps = insert ps at (introduced vouched x)

-- the reason to drop an announcement of another station, given the same place
abbrev pub reason_at : Result ℕ ℕ → List Remembered → Heard → Option PeerRefusal
reason_at (Ok at) ps x =
    let kept = (slice_index_or ps at (introduced false x)).last.told.mn in
    if nat_le x.mn kept then Some (OldNumber kept) else None
reason_at (Err at) ps x = if nat_le most_peers (length ps) then Some PeersFull else None

-- the rows after an accepted announcement, which displaces others if it is vouched
abbrev pub rows_heard : Result ℕ ℕ → Bool → Heard → List Remembered → List Remembered
rows_heard place vouched x ps =
    let rows = heard_at place vouched x ps in
    if vouched then displaced_rows x rows else rows

-- whether words are young after the next tick too
abbrev pub has_more : Words → Bool
has_more w = nat_lt 1 w.left

-- whether a tick changes nothing of what is shown of a peer
abbrev pub stays : Remembered → Bool
stays p = elim p.vouched [ Some w ↦ has_more p.last && has_more w | None ↦ has_more p.last ]
