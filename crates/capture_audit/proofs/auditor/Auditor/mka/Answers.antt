use Rattle.capture_audit.proofs.auditor.Auditor.mka.Goals as goal

pub returns-in-Right-clause-handles : goal.returns-in-Right-clause-handles
returns-in-Right-clause-handles c = rw c.in-Right.is c.right_mkpdu.ensures.handles
