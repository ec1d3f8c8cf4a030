use Rattle.transcript.proofs.Cutting.{whole, events, again}
use Rattle.transcript.proofs.laws.law_cut.Goals as goal

pub returns-clause-whole : goal.returns-clause-whole
returns-clause-whole c = whole

pub returns-clause-events : goal.returns-clause-events
returns-clause-events c = events

pub returns-clause-again : goal.returns-clause-again
returns-clause-again c = again
