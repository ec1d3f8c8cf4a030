use Rattle.capture_audit.proofs.handing.hand_gift.Goals as goal

pub returns-in_ok-hand_none-in-Err-clause-hands : goal.returns-in_ok-hand_none-in-Err-clause-hands
returns-in_ok-hand_none-in-Err-clause-hands c = λ told stands few.
    let it = c.in_ok-hand_none-in-Err.ensures.hands told c.args.packet stands in
    let is = c.in-Err.is in
    rw is (it.0, it.1, few)
