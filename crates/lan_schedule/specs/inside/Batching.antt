-- Protected frames next to each other on the air, and what a station answers to them.
use Rattle.std.specs.Prelude.{◌≡◌, ℕ, ◌+◌, true, List, [], ◌∷◌, Option, Some, None}
use Rattle.gcm_frames.specs.Tags.{is_sec}
use Rattle.rx_slots.specs.declared.arrival.Checked.{Checked}
use Rattle.lan_core.specs.Run.{Run}
use Rattle.lan_core.specs.Ledgers.{Frame, frame_at}
use Rattle.lan_core.specs.Batches.{IsChecked}

-- the frame of a number is on the air, is a protected one, and has these octets
pub record IsData (r : Run) (number : ℕ) (octets : List ℕ) : Type 0 where
  pub frame : Frame
  pub found : frame_at r number ≡ Some frame
  pub protected : is_sec frame.octets ≡ true
  pub same : octets ≡ frame.octets

-- so do those from a number on
abbrev pub AreData : Run → ℕ → List (List ℕ) → Type 0
AreData r number [] = Unit {0}
AreData r number (octets ∷ later) = IsData r number octets × AreData r (number + 1) later

-- a station answers so to the frames from a number on
abbrev pub AreChecked : Run → ℕ → ℕ → List Checked → Type 0
AreChecked r number s [] = Unit {0}
AreChecked r number s (answer ∷ later) =
    IsChecked r number s answer × AreChecked r (number + 1) s later

-- ---- the answers at hand, the next one first

abbrev pub first_answer : List Checked → Option Checked
first_answer [] = None
first_answer (answer ∷ later) = Some answer

abbrev pub rest_answers : List Checked → List Checked
rest_answers [] = []
rest_answers (answer ∷ later) = later
