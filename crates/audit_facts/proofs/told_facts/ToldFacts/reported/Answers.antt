use Rattle.audit_facts.specs.Noted.{events, fresh_frames, spoken_of}
use Rattle.audit_facts.proofs.Views.{inside}
use Rattle.audit_facts.proofs.told_facts.ToldFacts.reported.Goals as goal

pub returns : goal.returns
returns c = λ h stands.
    let held = inside (fresh_frames h) (spoken_of h) (events h) c.self.inside c.args.self.now c.self.view_is stands in
    c.reported.ensures (events h) held.rollover
