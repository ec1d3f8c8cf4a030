use Rattle.audit_facts.proofs.Views.{inside, on_ok}
use Rattle.audit_facts.proofs.told_facts.ToldFacts.see.Goals as goal

pub returns : goal.returns
returns c = λ fs ss es holds ordered.
    let held = inside fs ss es c.self.inside c.args.self.now c.self.view_is holds in
    on_ok c.see.result
    (λ seen. record {
      changes = c.in_ok-note.ensures.noted fs held.changes ordered;
      members = held.members;
      rollover = seen;
    })
    (c.see.ensures es held.rollover)
