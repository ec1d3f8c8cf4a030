use Rattle.audit_facts.proofs.Whole.{whole}
use Rattle.audit_facts.proofs.facts.AuditFacts.members.Goals as goal

pub returns : goal.returns
returns c = λ h stands. c.members.ensures h (whole h c.self.inside c.args.self.now c.self.view_is stands).told
