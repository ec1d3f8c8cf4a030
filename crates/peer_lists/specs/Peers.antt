-- Who is live, who is potential, what a live peer says, and the rows that show it (IEEE Std 802.1X,
-- 9.4.3).
use Rattle.std.specs.Prelude.{ℕ, Bool, false, if◌then◌else◌, not, ◌&&◌, List, [], ◌∷◌, Option, Some, None, is_some, unwrap_or, option_map, option_and_then, slice_get}
use Rattle.std.specs.List.{list_any, filter, find}
use Rattle.lan_base.specs.declared.address.Mi.{Mi}
use Rattle.peer_lists.specs.declared.heard.Row.{Row}
use Rattle.lan_base.specs.Identifiers.{same_mi, same_sci}
use Rattle.peer_lists.specs.Histories.{Peering, clock, is_young}
use Rattle.peer_lists.specs.Acceptance.{Own, Accepted, accepted, members}

-- what stands before the first that passes the test, or all where none does
abbrev pub newer : {A : Type 0} → (A → Bool) → List A → List A
newer test [] = []
newer test (x ∷ xs) = if test x then [] else x ∷ newer test xs

-- whether the second announcement, if it came later, displaces the first: it is vouched, and of
-- another member with the same SCI
abbrev pub displaces : Accepted → Accepted → Bool
displaces a b = b.vouched && (not (same_mi b.told.mi a.told.mi) && same_sci b.told.sci a.told.sci)

-- whether a later announcement than the last that passes the test displaces that one
abbrev pub is_displaced : (Accepted → Bool) → List Accepted → Accepted → Bool
is_displaced test past a = list_any (displaces a) (newer test past)

-- the last announcement that passes the test, where it is younger than the life time and no later
-- one displaces it
abbrev pub standing : ℕ → (Accepted → Bool) → List Accepted → Option Accepted
standing now test past =
    option_and_then
    (λ a. if is_young now a.at && not (is_displaced test past a) then Some a else None)
    (find test past)

-- whether an announcement is of this member
abbrev pub is_of : Mi → Accepted → Bool
is_of m a = same_mi a.told.mi m

-- whether an announcement is of this member and vouched
abbrev pub is_vouched_of : Mi → Accepted → Bool
is_vouched_of m a = is_of m a && a.vouched

-- the last accepted announcement of a member, however long ago it came
abbrev pub last_accepted : Own → List Peering → Mi → Option Accepted
last_accepted own h m = find (is_of m) (accepted own h)

-- What a live member says: its last vouched announcement. A member is live exactly where it says
-- something.
unfoldable pub says : Own → List Peering → Mi → Option Accepted
says own h m = standing (clock h) (is_vouched_of m) (accepted own h)

-- the last accepted announcement of a potential member: it is not live, and that announcement
-- stands
unfoldable pub hopes : Own → List Peering → Mi → Option Accepted
hopes own h m =
    if is_some (says own h m) then None
    else standing (clock h) (is_of m) (accepted own h)

-- the members with an accepted announcement younger than the life time, ascending
unfoldable pub known : Own → List Peering → List Mi
known own h = members (clock h) (accepted own h)

-- the live members, ascending
abbrev pub lives : Own → List Peering → List Mi
lives own h = filter (λ m. is_some (says own h m)) (known own h)

-- the potential members, ascending
abbrev pub potentials : Own → List Peering → List Mi
potentials own h = filter (λ m. is_some (hopes own h m)) (known own h)

-- whether a later announcement displaces the last accepted one of a member
abbrev pub is_last_displaced : Own → List Peering → Mi → Bool
is_last_displaced own h m =
    unwrap_or (option_map (is_displaced (is_of m) (accepted own h)) (last_accepted own h m)) false

-- what is shown of a member, given its last accepted announcement: its words are those of what it
-- says where it is live
abbrev pub row_of : Own → List Peering → Mi → Accepted → Row
row_of own h m last =
    let words = (unwrap_or (says own h m) last).told in
    record {
      mi = m;
      mn = last.told.mn;
      sci = words.sci;
      priority = words.priority;
      live = is_some (says own h m);
      potential = is_some (hopes own h m);
      uses = words.uses;
    }

-- the row at a place among the members that are known
unfoldable pub row_at : Own → List Peering → ℕ → Option Row
row_at own h at =
    option_and_then (λ m. option_map (row_of own h m) (last_accepted own h m))
    (slice_get (known own h) at)
