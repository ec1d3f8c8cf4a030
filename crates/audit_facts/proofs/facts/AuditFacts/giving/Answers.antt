use Rattle.audit_facts.specs.Noted.{givings, reuses}
use Rattle.audit_facts.proofs.Whole.{whole}
use Rattle.audit_facts.proofs.facts.AuditFacts.giving.Goals as goal

pub returns : goal.returns
returns c = λ h stands.
    c.giving.ensures (givings h) (reuses h) (whole h c.self.inside c.args.self.now c.self.view_is stands).marks
