-- What contracts see of a worker, and how work changes it.
use Rattle.std.specs.Prelude.{◌≡◌, ℕ, ◌+◌, ◌<◌, List, length, slice_index_or}
use Rattle.atomic_table.specs.Seated.{TableId}
use Rattle.association_slots.specs.Views.{SeatAt}
use Rattle.association_slots.specs.declared.view.SeatView.{SeatView}
use Rattle.data_workers.specs.declared.entry.Entry.{Entry}
use Rattle.data_workers.specs.declared.sender.Sender.{Sender}
use Rattle.data_workers.specs.Logs.{IsLog}

-- what a caller sees of a `Worker`: how many jobs are left, and what came of those before
pub record WorkerAt : Type 0 where
  pub sender : Sender
  pub seat : SeatAt
  pub jobs : ℕ
  pub log : List Entry

-- sender and table stay
pub record IsSame (old new : WorkerAt) : Type 0 where
  pub sender : new.sender ≡ old.sender
  pub table : new.seat.table ≡ old.seat.table

-- the log is what the worker's seat did since it knew v
abbrev pub Logged : SeatView → WorkerAt → Type 0
Logged v w = IsLog v w.seat.view w.sender w.log

-- no job is left, and there is one entry more for each; a log that was what the seat did since any
-- time is so still
pub record IsDone (old new : WorkerAt) : Type 0 where
  pub same : IsSame old new
  pub none : new.jobs ≡ 0
  pub each : length new.log ≡ length old.log + old.jobs
  pub logged : (v : SeatView) → Logged v old → Logged v new

-- there are as many workers as before, and each has done its jobs
pub record AreDone (old new : List WorkerAt) : Type 0 where
  pub count : length new ≡ length old
  pub each : (i : ℕ) (d : WorkerAt) → i < length old
      → IsDone (slice_index_or old i d) (slice_index_or new i d)

-- the worker's seat belongs to the table at the place of its station
pub record HasTable (tables : List TableId) (w : WorkerAt) : Type 0 where
  pub station : w.sender.station < length tables
  pub table : (d : TableId) → slice_index_or tables w.sender.station d ≡ w.seat.table
