-- How the words of all stations go through a race: seats go out, control moves the words, and seats
-- come back.
use Rattle.std.specs.Prelude.{◌≡◌, ℕ, ◌==◌, ◌++◌, if◌then◌else◌, List, [], ◌∷◌, length, slice_get}
use Rattle.std.specs.Prelude.{Some}
use Rattle.association_slots.specs.Views.{ControlAt, current}
use Rattle.association_slots.specs.declared.view.ControlView.{ControlView}
use Rattle.association_slots.specs.declared.view.Current.{Current}
use Rattle.data_workers.specs.Workers.{WorkerAt}
use Rattle.lan_core.specs.declared.settings.Settings.{Settings}
use Rattle.lan_core.specs.Lives.{transmitting_at}
use Rattle.lan_core.specs.Run.{Run, Happening}
use Rattle.worker_races.specs.merge.Table.{Controls, an_of, flipped, words_of}
use Rattle.station_words.specs.Seats.{HasJoined, WasSeated}
use Rattle.station_words.specs.Telling.{of_seats}
use Rattle.station_words.specs.Ties.{HaveKeptUp}

-- the seats of workers went out, in their order
abbrev pub WereSeated : List WorkerAt → List ControlAt → List ControlAt → Type 0
WereSeated [] old new = new ≡ old
WereSeated (w ∷ ws) old new = (cs : List ControlAt) × WasSeated w.sender.station old cs w.seat
    × WereSeated ws cs new

-- The seats came back, in their order; control learned of each, and words that kept up with a run do so
-- still.
abbrev pub HaveJoined : Settings → Run → List WorkerAt → List ControlAt → List ControlAt → Type 0
HaveJoined settings r [] old new = new ≡ old
HaveJoined settings r (w ∷ ws) old new = (cs : List ControlAt)
    × HasJoined w.sender.station w.seat old cs
    × (HaveKeptUp settings r old → HaveKeptUp settings r cs)
    × HaveJoined settings r ws cs new

-- what an event of a station says to the current word of one, newest first
abbrev pub words_by : Settings → Run → ℕ → Happening → ℕ → ControlView → List Current
words_by settings r t x s c =
    if t == s then flipped (words_of s (current c).epoch (an_of (transmitting_at settings s r)) x.facts)
    else []

-- the current word of a station was told this; no seat came or went
pub record WasTold (words : List Current) (c d : ControlView) : Type 0 where
  pub points : d.points ≡ words ++ c.points
  pub seats : of_seats d ≡ of_seats c

-- each current word was told what an event of a station after a run says to it
pub record WereTold (settings : Settings) (r : Run) (t : ℕ) (x : Happening)
    (old new : List ControlAt) : Type 0 where
  pub many : length new ≡ length old
  pub each : (s : ℕ) (d : ControlAt) → slice_get new s ≡ Some d → (c : ControlAt)
      × (slice_get old s ≡ Some c) × WasTold (words_by settings r t x s c.view) c.view d.view

-- each word was told what all events say that control performed, one after the other
abbrev pub HaveGone : Settings → Run → Controls → List ControlAt → List ControlAt → Type 0
HaveGone settings r [] old new = new ≡ old
HaveGone settings r ((t, x) ∷ xs) old new = (cs : List ControlAt) × WereTold settings r t x old cs
    × HaveGone settings (x ∷ r) xs cs new
