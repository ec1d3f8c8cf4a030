use Rattle.capture_audit.proofs.handing.hand_none.Goals as goal

pub returns-clause-hands : goal.returns-clause-hands
returns-clause-hands c = λ told packet stands.
    let all = c.in_ok-is_new.ensures in
    let first = all.first told stands in
    let gave = all.gave told packet stands in
    let why = c.why_of-why.ensures in
    (cc, rw why at gave)
