use Rattle.audit_facts.proofs.Whole.{whole}
use Rattle.audit_facts.proofs.facts.AuditFacts.timed.Goals as goal

pub returns : goal.returns
returns c = λ h stands. c.timed.ensures h (whole h c.self.inside c.args.self.now c.self.view_is stands).told
