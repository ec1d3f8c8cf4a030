-- What the table of peers holds, and for which histories it stands (this profile's own rule): no
-- public definition but these knows of rows and countdowns.
use Rattle.std.specs.Prelude.{◌≡◌, ℕ, ◌+◌, ◌-◌, ◌%◌, ◌<◌, ◌≤◌, Bool, if◌then◌else◌, List, Option, Some, None, option_map, option_and_then, map, slice_index, length}
use Rattle.std.specs.List.{find}
use Rattle.lan_base.specs.declared.address.Mi.{Mi}
use Rattle.peer_lists.specs.declared.sent_numbers.SentNumbers.{SentNumbers}
use Rattle.peer_lists.specs.declared.remembered.Words.{Words}
use Rattle.peer_lists.specs.declared.remembered.Remembered.{Remembered}
use Rattle.lan_base.specs.Identifiers.{same_mi, IsAscending}
use Rattle.peer_lists.specs.Histories.{Peering, clock, is_young, Sent, is_number, announced, last_sent, IsCounted, may_send as may_send_after}
use Rattle.lan_base.specs.Timers.{life_time}
use Rattle.peer_lists.specs.Acceptance.{Own, Accepted, accepted}
use Rattle.peer_lists.specs.Peers.{is_of, is_vouched_of, is_displaced}

-- what contracts see of the table
pub record Table : Type 0 where
  pub own : Own
  pub rows : List Remembered
  pub sent : SentNumbers

-- the member that a row is of
abbrev pub member : Remembered → Mi
member p = p.last.told.mi

-- the row of a member
abbrev pub look_up : Mi → List Remembered → Option Remembered
look_up m ps = find (λ p. same_mi (member p) m) ps

-- what is kept of the last announcement that passes the test, where it is young
abbrev pub words_of : ℕ → (Accepted → Bool) → List Accepted → Option Words
words_of now test past =
    option_and_then (λ a. if is_young now a.at then Some (record {
      told = a.told;
      left = (a.at + life_time) - now;
      displaced = is_displaced test past a;
    }) else None) (find test past)

-- what is kept of a member
unfoldable pub remembered : Own → List Peering → Mi → Option Remembered
remembered own h m =
    let vouched = words_of (clock h) (is_vouched_of m) (accepted own h) in
    option_map (λ last. record { last = last; vouched = vouched })
    (words_of (clock h) (is_of m) (accepted own h))

-- in how many ticks what was sent is as old as the life time, 0 for nothing
abbrev pub ticks_left : ℕ → Option Sent → ℕ
ticks_left now None = 0
ticks_left now (Some s) = (s.at + life_time) - now

-- in how many ticks a number is as old as the life time, 0 where it was never sent
abbrev pub left_of : List Peering → ℕ → ℕ
left_of h n = ticks_left (clock h) (find (is_number n) (announced h))

-- The table stands for a history of the station: its rows are ascending, and are what the history
-- makes of each member; its numbers are the history's.
pub record StandsFor (own : Own) (t : Table) (h : List Peering) : Type 0 where
  pub owner : t.own ≡ own
  pub ascending : IsAscending (map member t.rows)
  pub rows : (m : Mi) → look_up m t.rows ≡ remembered own h m
  pub counted : IsCounted h
  pub last : t.sent.last ≡ last_sent h
  pub may_send : t.sent.may_send ≡ may_send_after h
  pub long : length t.sent.left ≡ life_time
  pub left : (n : ℕ) → n ≤ t.sent.last → t.sent.last < n + life_time
      → slice_index t.sent.left (n % life_time) ≡ left_of h n
