-- How the words of all stations change as a seat goes out, and as one comes back; and what a claim
-- got afterwards.
use Rattle.std.specs.Prelude.{◌≡◌, ◌≤◌, ◌<◌, ◌⊎◌, ℕ, Bool, true, false, List, slice_get, slice_set}
use Rattle.std.specs.Prelude.{slice_index_or, Some, IfSome}
use Rattle.association_slots.specs.Learned.{Learned}
use Rattle.association_slots.specs.Steps.{new_seat, seated, told}
use Rattle.association_slots.specs.Views.{ControlAt, SeatAt, AllIn, current, free_number, told_sum}
use Rattle.association_slots.specs.declared.view.ControlView.{ControlView}
use Rattle.lan_core.specs.declared.settings.Settings.{Settings}
use Rattle.lan_core.specs.Expected.{last_number}
use Rattle.lan_core.specs.Lives.{transmitting_at}
use Rattle.lan_core.specs.Run.{Run}
use Rattle.lan_core.specs.Unstopped.{next_under}

-- a seat of this station went out; nothing else changed
pub record WasSeated (s : ℕ) (old new : List ControlAt) (seat : SeatAt) : Type 0 where
  pub control : ControlAt
  pub there : slice_get old s ≡ Some control
  pub seat_is : seat ≡ record { table = control.table; view = new_seat control.view }
  pub new_is : new ≡ slice_set old s (record control { view = seated control.view })

-- it came back, and control learned of it
pub record HasJoined (s : ℕ) (seat : SeatAt) (old new : List ControlAt) : Type 0 where
  pub control : ControlAt
  pub there : slice_get old s ≡ Some control
  pub new_is : new ≡ slice_set old s (record control { view = told control.view seat.view })
  pub learned : Learned (told control.view seat.view)

-- no seat is left at a station: eight are out, or there is no such station
abbrev pub HasNoSeat : ℕ → List ControlAt → Type 0
HasNoSeat s cs = IfSome (slice_get cs s) (λ c. 8 < free_number c.view)

-- no seat of any station is out
abbrev pub AreAllIn : List ControlAt → Type 0
AreAllIn cs = (s : ℕ) (c : ControlAt) → slice_get cs s ≡ Some c → AllIn c.view

-- the seat with a number, less one, is out: of one station, and of the station at a place
abbrev pub is_out : ControlView → ℕ → Bool
is_out c i = slice_index_or c.out i false

abbrev pub IsOut : ℕ → ℕ → List ControlAt → Type 0
IsOut s i cs = (c : ControlAt) × (slice_get cs s ≡ Some c) × (is_out c.view i ≡ true)

-- no seat is out that was not out before
abbrev pub NoMoreOut : List ControlAt → List ControlAt → Type 0
NoMoreOut old new = (s i : ℕ) → IsOut s i new → IsOut s i old

-- the words of a station have no packet number left under the key that transmits
abbrev pub AreSpent : ℕ → List ControlAt → Type 0
AreSpent s cs = (c : ControlAt) × (slice_get cs s ≡ Some c)
    × (last_number < told_sum c.view (current c.view).an (current c.view).epoch)

-- a claim after a run got a packet number under the key that transmits, not below the next one, or
-- none, as no key transmits or the words have none left
abbrev pub HasGot : Settings → ℕ → Run → List ControlAt → ℕ → Type 0
HasGot settings s r cs n =
    ((1 ≤ next_under settings s r (transmitting_at settings s r))
    × (next_under settings s r (transmitting_at settings s r) ≤ n) × (n ≤ last_number))
    ⊎ ((n ≡ 0) × ((next_under settings s r (transmitting_at settings s r) ≡ 0) ⊎ AreSpent s cs))
