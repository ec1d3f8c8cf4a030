use Rattle.audit_text.proofs.KeyText.{parted, parted-alone}
use Rattle.audit_text.proofs.laws.law_parted.Goals as goal

pub returns-clause-parts : goal.returns-clause-parts
returns-clause-parts c = parted

pub returns-clause-alone : goal.returns-clause-alone
returns-clause-alone c = parted-alone
