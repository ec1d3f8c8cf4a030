-- So many are left for the workers that were not asked yet.
use Rattle.std.proofs.Common.{◌≡◌, ◌+◌, drop}
use Rattle.worker_races.specs.Senders.{jobs_of}
use Rattle.lan_schedule.proofs.stage.Stage.has_numbers_for.Given as goal

abbrev pub invariant-loop-worker : goal.invariant-loop-worker
invariant-loop-worker l = l.self.tally.claims + (jobs_of l.workers + l.left)
    ≡ jobs_of (drop l.worker-index l.workers) + 4294967279
