-- The workers of a race as they began: whose frames they send, and how many jobs they have.
use Rattle.std.specs.Prelude.{◌≡◌, ℕ, suc, ◌+◌, List, [], ◌∷◌, slice_get, Some}
use Rattle.lan_base.specs.declared.frame.UserFrame.{UserFrame}
use Rattle.data_workers.specs.Workers.{Logged, WorkerAt}
use Rattle.data_workers.specs.declared.sender.Sender.{Sender}
use Rattle.lan_core.specs.Claims.{user_at}
use Rattle.lan_core.specs.Run.{Run, Profile, stations}
use Rattle.lan_core.specs.Types.{IsUserFrame}

-- a station of a run, under its SCI, and the user frame of a number, which can be sent
pub record IsSender (users : List UserFrame) (r : Run) (number : ℕ) (s : Sender) : Type 0 where
  pub profile : Profile
  pub placed : slice_get (stations r) s.station ≡ Some profile
  pub sci : profile.sci ≡ s.sci
  pub user : user_at users number ≡ Some s.user
  pub sendable : IsUserFrame s.user

-- the first worker has the user frame of this number
abbrev pub AreSenders : List UserFrame → Run → ℕ → List WorkerAt → Type 0
AreSenders users r number [] = Unit {0}
AreSenders users r number (w ∷ ws) =
    IsSender users r number w.sender × AreSenders users r (suc number) ws

-- a worker that has done no job
pub record IsNew (w : WorkerAt) : Type 0 where
  pub empty : w.log ≡ []
  pub logged : Logged w.seat.view w

-- how many jobs they have together
abbrev pub jobs_of : List WorkerAt → ℕ
jobs_of [] = 0
jobs_of (w ∷ ws) = w.jobs + jobs_of ws
