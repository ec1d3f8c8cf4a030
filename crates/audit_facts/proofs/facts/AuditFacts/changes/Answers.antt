use Rattle.audit_facts.proofs.Whole.{whole}
use Rattle.audit_facts.proofs.facts.AuditFacts.changes.Goals as goal

pub returns : goal.returns
returns c = λ h stands. c.changes.ensures h (whole h c.self.inside c.args.self.now c.self.view_is stands).told
