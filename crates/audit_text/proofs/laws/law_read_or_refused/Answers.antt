use Rattle.audit_text.proofs.Faults.{read_or_refused}
use Rattle.audit_text.proofs.laws.law_read_or_refused.Goals as goal

pub returns : goal.returns
returns c = read_or_refused
