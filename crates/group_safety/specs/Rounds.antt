-- Rounds (this profile's own word): ticks, one of each station that has started and takes part,
-- with nothing between them but claims and ticks of stations that take no part.
use Rattle.std.specs.Prelude.{ℕ, Bool, zero, suc, ◌+◌, ◌==◌, not, if◌then◌else◌, nat_lt}
use Rattle.std.specs.Prelude.{List, [], ◌∷◌, length, Option, Some, None, option_and_then}
use Rattle.std.specs.List.{filter, list_any}
use Rattle.lan_core.specs.declared.event.Event.{Event}
use Rattle.lan_core.specs.declared.event.Event.TheVariants as events
use Rattle.lan_core.specs.Run.{Run, stations}

-- from which moment on rounds count, and which stations take no part in them
pub record Since : Type 0 where
  pub moment : ℕ
  pub out : List ℕ

-- how many rounds have begun, and which stations still have to tick in the one that stands open
pub record Pace : Type 0 where
  pub rounds : ℕ
  pub waiting : List ℕ

-- the places below a number
abbrev pub places : ℕ → List ℕ
places zero = []
places (suc n) = n ∷ places n

-- a station is one of these
abbrev pub is_among : ℕ → List ℕ → Bool
is_among s stations = list_any (λ u. u == s) stations

-- the stations below a number that take part
abbrev pub counted : List ℕ → ℕ → List ℕ
counted out n = filter (λ s. not (is_among s out)) (places n)

-- the others
abbrev pub without : ℕ → List ℕ → List ℕ
without s stations = filter (λ t. not (t == s)) stations

-- an event that may only stand between rounds
abbrev pub between_rounds : ℕ → List ℕ → Option Pace
between_rounds rounds [] = Some (record { rounds = rounds; waiting = [] })
between_rounds rounds (t ∷ ts) = None

-- a tick: it begins a round, or it is one that the round still waits for
abbrev pub ticking : List ℕ → ℕ → ℕ → List ℕ → Option Pace
ticking all s rounds [] = Some (record { rounds = rounds + 1; waiting = without s all })
ticking all s rounds (t ∷ ts) =
    if is_among s (t ∷ ts)
    then Some (record { rounds = rounds; waiting = without s (t ∷ ts) })
    else None

-- a tick of a station that takes no part: no round waits for it
abbrev pub ticking_aside : ℕ → Pace → Option Pace
ticking_aside s p = Some (record { rounds = p.rounds; waiting = without s p.waiting })

-- one event, given the stations that take part
abbrev pub turn : List ℕ → Event → Pace → Option Pace
turn all (events.Tick s next) p =
    if is_among s all then ticking all s p.rounds p.waiting else ticking_aside s p
turn all (events.Claim s user pn) p = Some p
turn all _ p = between_rounds p.rounds p.waiting

-- The pace of a run whose rounds count from a moment on, unless an event breaks a round.
unfoldable pub pace : Since → Run → Option Pace
pace from [] = Some (record { rounds = 0; waiting = [] })
pace from (x ∷ r) =
    if nat_lt (length r) from.moment
    then Some (record { rounds = 0; waiting = [] })
    else option_and_then (turn (counted from.out (length (stations r))) x.event) (pace from r)

-- how many rounds have begun
abbrev pub rounds_in : Option Pace → ℕ
rounds_in None = 0
rounds_in (Some p) = p.rounds

unfoldable pub rounds : Since → Run → ℕ
rounds from r = rounds_in (pace from r)
