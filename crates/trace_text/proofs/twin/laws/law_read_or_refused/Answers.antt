use Rattle.trace_text.proofs.twin_lines.Faults.{read_or_refused}
use Rattle.trace_text.proofs.twin.laws.law_read_or_refused.Goals as goal

pub returns-clause-one : goal.returns-clause-one
returns-clause-one c = read_or_refused
