use Rattle.member_text.proofs.Faults.{read_or_refused}
use Rattle.member_text.proofs.laws.law_read_or_refused.Goals as goal

pub returns-clause-one : goal.returns-clause-one
returns-clause-one c = read_or_refused
