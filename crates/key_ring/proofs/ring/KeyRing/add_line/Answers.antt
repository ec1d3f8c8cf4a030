use Rattle.std.proofs.Common.{Err, ap, refl, ◌∙◌}
use Rattle.audit_text.specs.Reading.{key_line_in}
use Rattle.key_ring.proofs.Lines.{refused-is}
use Rattle.key_ring.proofs.Steps.{adds-said}
use Rattle.key_ring.proofs.ring.KeyRing.add_line.Goals as goal

pub returns-in-Err-Refused-clause-adds : goal.returns-in-Err-Refused-clause-adds
returns-in-Err-Refused-clause-adds c =
    let why = c.in-Err-Refused.why in
    let e = (c.read_key_line.ensures.refused why).0 (c.in-Err-Refused.is ∙ ap (λ e. Err e) c.in-Err-Refused.field-0-is) in
    (refl, rw c.in-Err-Refused.why-is (refused-is (key_line_in c.args.text.now) why e), refl)

pub returns-in-Ok-Some-clause-adds : goal.returns-in-Ok-Some-clause-adds
returns-in-Ok-Some-clause-adds c =
    adds-said c.args.number c.args.text.now c.in-Ok-Some.line c.args.self.now c.add.new.self c.add.result
    (rw c.in-Ok-Some.field-0-is at c.in-Ok-Some.ensures.read) c.add.ensures.added c.add.ensures.memory c.add.ensures.capture
