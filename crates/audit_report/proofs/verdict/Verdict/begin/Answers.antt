use Rattle.std.proofs.lemmas.Result.{on_ok_weaker}
use Rattle.audit_report.specs.Changes.{change_lines}
use Rattle.audit_report.specs.Readiness.{unready_lines}
use Rattle.audit_report.specs.Uses.{timed_lines}
use Rattle.audit_report.proofs.Appending.{then}
use Rattle.audit_report.proofs.verdict.Verdict.begin.Goals as goal

pub returns : goal.returns
returns c =
    let v = c.self.inside in
    rw (← c.self.view_is)
    (on_ok_weaker c.put_unready.result
    (λ last. then _ _ _ (timed_lines v.timed.items) _ (rw c.deref.ensures.value at c.in_ok-put_timed.ensures)
    (then _ _ _ (change_lines v.changes.items) (unready_lines v.unready.items)
    (rw c.deref-2.ensures.value at c.in_ok-put_changes.ensures) last))
    (rw c.deref-3.ensures.value at c.put_unready.ensures))
