use Rattle.audit_facts.specs.Noted.{unknown_names}
use Rattle.audit_facts.proofs.Whole.{whole}
use Rattle.audit_facts.proofs.facts.AuditFacts.unknown.Goals as goal

pub returns : goal.returns
returns c = λ h stands.
    c.told.ensures (unknown_names h) (whole h c.self.inside c.args.self.now c.self.view_is stands).unknown
