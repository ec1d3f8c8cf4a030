use Rattle.capture_packets.proofs.taking.look.Goals as goal

pub returns-in-Ok-clause-looks : goal.returns-in-Ok-clause-looks
returns-in-Ok-clause-looks g c = λ limit text given s. c.in-Ok.ensures.peeks limit text given s

pub returns-in-Err-Limit-clause-looks : goal.returns-in-Err-Limit-clause-looks
returns-in-Err-Limit-clause-looks g c = λ limit text given s.
    let p = c.in-Err-Limit.ensures.peeks limit text given s in rw c.in-Err-Limit.field-0-is at p

pub returns-in-Err-Failed-clause-looks : goal.returns-in-Err-Failed-clause-looks
returns-in-Err-Failed-clause-looks g c = λ limit text given s.
    let p = c.in-Err-Failed.ensures.peeks limit text given s in
    let q = rw c.in-Err-Failed.field-0-is at p in
    (c.peek.new.self.octets, q.1.0, q.1.1)
