use Rattle.clean_audits.proofs.Captures.{captures}
use Rattle.clean_audits.proofs.SealedFrames.{AreProtected}
use Rattle.clean_audits.proofs.audit.law_each_run_has_a_capture.Goals as goal

pub returns : goal.returns
returns c = λ settings users r stepped fresh unforged.
    captures protect settings users r
    (record { stepped = stepped; fresh = fresh; unforged = unforged })
  where
    protect : AreProtected
    protect = record {
      reads = c.law_protected_is_read.ensures;
      longer = c.law_protected_is_longer.ensures;
      opens = c.law_protected_is_opened.ensures;
    }
