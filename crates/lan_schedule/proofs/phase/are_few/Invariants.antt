use Rattle.lan_schedule.proofs.Few.{IsLeft}
use Rattle.lan_schedule.proofs.phase.are_few.Given as goal

abbrev pub invariant-loop-burst : goal.invariant-loop-burst
invariant-loop-burst l = IsLeft l.station l.bursts l.burst-index l.left
