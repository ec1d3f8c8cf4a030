use Rattle.std.proofs.Common.{length}
use Rattle.std.proofs.lemmas.Result.{on_ok_weaker}
use Rattle.member_notes.specs.Facts.{sums_of as member_sums}
use Rattle.audit_report.specs.Members.{sums_line}
use Rattle.audit_report.specs.Readiness.{rollover_line, sums_of}
use Rattle.audit_report.proofs.Appending.{then}
use Rattle.audit_report.proofs.verdict.Verdict.put_sums.Goals as goal

pub returns : goal.returns
returns c =
    let v = c.self.inside in
    rw (← c.self.view_is)
    (on_ok_weaker c.put_sums.result
    (λ last. then _ _ _ (rollover_line (length v.changes.items) (sums_of v.unready.items v.timed.items))
    (sums_line (member_sums v.members.items))
    (rw (c.len-changes.ensures, v.changes.ok.0, c.of.ensures, c.deref.ensures.value, c.deref-2.ensures.value) at c.in_ok-put_rollover.ensures) last)
    (rw (c.in_ok-of.ensures, c.deref-3.ensures.value) at c.put_sums.ensures))
