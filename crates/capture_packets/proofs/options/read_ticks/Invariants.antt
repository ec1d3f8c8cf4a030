use Rattle.std.proofs.Common.{length}
use Rattle.capture_packets.proofs.OptionSteps.{HasTicks}
use Rattle.capture_packets.proofs.options.read_ticks.Given as goal

abbrev pub invariant-loop-rest : goal.invariant-loop-rest
invariant-loop-rest l = HasTicks l.order l.options l.rest l.ticks

abbrev pub decreases-loop-rest : goal.decreases-loop-rest
decreases-loop-rest l = length l.rest
