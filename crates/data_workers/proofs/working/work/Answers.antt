use Rattle.std.proofs.Common.{arith}
use Rattle.data_workers.proofs.working.work.Goals as goal

-- where the loop ends no job is left, so each has its entry
pub returns : goal.returns
returns g c = let kept = c.loop-worker.invariant in let out = c.loop-worker-test.false in let left = c.jobs.ensures in record {
  same = kept.0;
  none = omega (arith, out, left);
  each = omega (arith, kept.1, out, left);
  logged = kept.2;
}
