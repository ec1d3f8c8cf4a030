use Rattle.transcript.proofs.EachFact.{typed-fits}
use Rattle.transcript.proofs.run_laws.law_typed_facts_have_lines.Goals as goal

pub returns : goal.returns
returns c = typed-fits
