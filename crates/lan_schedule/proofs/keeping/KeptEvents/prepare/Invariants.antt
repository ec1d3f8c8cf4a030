-- What was gone over so far is ready.
use Rattle.std.proofs.Common.{map}
use Rattle.lan_schedule.specs.inside.Weaves.{reports_with}
use Rattle.lan_schedule.proofs.keeping.KeptEvents.prepare.Given as goal

abbrev pub invariant-loop-facts : goal.invariant-loop-facts
invariant-loop-facts g l = g.R.Preparing.Ready l.recorder (reports_with l.names (map (λ f. f.now) l.yielded))
