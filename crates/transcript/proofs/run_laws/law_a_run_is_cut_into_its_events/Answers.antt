use Rattle.transcript.proofs.RunFacts.{are-events, run-cut}
use Rattle.transcript.proofs.run_laws.law_a_run_is_cut_into_its_events.Goals as goal

pub returns : goal.returns
returns c = record { events = are-events; whole = run-cut }
