use Rattle.std.proofs.Common.{◌≡◌, ◌+◌, length}
use Rattle.association_slots.specs.declared.view.SeatView.{SeatView}
use Rattle.data_workers.specs.Workers.{IsSame, Logged}
use Rattle.data_workers.proofs.working.work.Given as goal

-- one entry more for each job less, and the log is what the seat did
abbrev pub invariant-loop-worker : goal.invariant-loop-worker
invariant-loop-worker g l =
    IsSame l.initial.worker l.worker
    × (length l.worker.log + l.worker.jobs ≡ length l.initial.worker.log + l.initial.worker.jobs)
    × ((v : SeatView) → Logged v l.initial.worker → Logged v l.worker)

abbrev pub decreases-loop-worker : goal.decreases-loop-worker
decreases-loop-worker g l = l.worker.jobs
