use Rattle.audit_facts.specs.Noted.{givings, reuses, said_by, unknown_names}
use Rattle.audit_facts.proofs.Marking.{is-behind}
use Rattle.audit_facts.proofs.Views.{on_ok}
use Rattle.audit_facts.proofs.Whole.{whole}
use Rattle.audit_facts.proofs.facts.AuditFacts.note.Goals as goal

pub returns : goal.returns
returns c = λ h stands next.
    let stood = whole h c.self.inside c.args.self.now c.self.view_is stands in
    on_ok c.name.result
    (λ named. record {
      told = c.in_ok-note.ensures h stood.told next;
      marks = c.in_ok-mark.ensures (givings h) (reuses h) stood.marks
          (is-behind h c.args.finding.now c.args.nanos (said_by c.args.kind.now) next);
      unknown = named;
    })
    (c.name.ensures (unknown_names h) stood.unknown)
