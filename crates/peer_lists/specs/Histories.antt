-- The history of one life of a station, as far as its peer lists go: ticks, announcements sent and
-- announcements heard (IEEE Std 802.1X, 9.4).
use Rattle.std.specs.Prelude.{⊤, ◌≡◌, ◌==◌, ℕ, ◌+◌, Bool, true, false, ◌&&◌, List, [], ◌∷◌, nat_lt}
use Rattle.std.specs.List.{list_any}
use Rattle.lan_base.specs.Timers.{life_time}
use Rattle.peer_lists.specs.declared.heard.Heard.{Heard}

-- a tick of 0.1 s, an announcement that was sent under its message number, or one that was heard
pub data Peering : Type 0 where
  ticked : Peering
  sent : ℕ → Peering
  heard : Heard → Peering

-- The tick count of a life. A history stands newest first.
abbrev pub clock : List Peering → ℕ
clock [] = 0
clock (ticked ∷ h) = clock h + 1
clock (sent n ∷ h) = clock h
clock (heard x ∷ h) = clock h

-- whether an entry is a tick
abbrev pub is_tick : Peering → Bool
is_tick ticked = true
is_tick (sent n) = false
is_tick (heard x) = false

-- whether what came at one tick count is less than the life time ago at another
abbrev pub is_young : ℕ → ℕ → Bool
is_young now at = nat_lt now (at + life_time)

-- an announcement that was sent: at which tick count, and under which message number
pub record Sent : Type 0 where
  pub at : ℕ
  pub mn : ℕ

-- what was sent, newest first
abbrev pub announced : List Peering → List Sent
announced [] = []
announced (ticked ∷ h) = announced h
announced (sent n ∷ h) = record { at = clock h; mn = n } ∷ announced h
announced (heard x ∷ h) = announced h

-- whether an announcement has this message number
abbrev pub is_number : ℕ → Sent → Bool
is_number n s = s.mn == n

-- whether it also was sent less than the life time ago
abbrev pub is_recent : ℕ → ℕ → Sent → Bool
is_recent now n s = is_number n s && is_young now s.at

-- whether this life sent the message number less than the life time ago
abbrev pub recent : List Peering → ℕ → Bool
recent h n = list_any (is_recent (clock h) n) (announced h)

-- the number that was sent last, 0 before the first
abbrev pub last_sent : List Peering → ℕ
last_sent [] = 0
last_sent (ticked ∷ h) = last_sent h
last_sent (sent n ∷ h) = n
last_sent (heard x ∷ h) = last_sent h

-- whether nothing was sent since the last tick
abbrev pub may_send : List Peering → Bool
may_send [] = true
may_send (ticked ∷ h) = true
may_send (sent n ∷ h) = false
may_send (heard x ∷ h) = may_send h

-- Each number that was sent is one greater than the one before it, from 1 on, and at most one was
-- sent in a tick.
abbrev pub IsCounted : List Peering → Type 0
IsCounted [] = ⊤
IsCounted (ticked ∷ h) = IsCounted h
IsCounted (sent n ∷ h) = (n ≡ last_sent h + 1) × (may_send h ≡ true) × IsCounted h
IsCounted (heard x ∷ h) = IsCounted h
