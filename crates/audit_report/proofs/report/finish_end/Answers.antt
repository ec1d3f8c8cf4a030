use Rattle.std.proofs.lemmas.Result.{on_ok_weaker}
use Rattle.audit_report.specs.Verdicts.{judged_lines, sum_lines}
use Rattle.audit_report.proofs.Appending.{then}
use Rattle.audit_report.proofs.report.finish_end.Goals as goal

pub returns : goal.returns
returns c =
    on_ok_weaker c.put_sums.result
    (λ last. then _ _ _ (judged_lines c.args.tally.now c.args.verdict.now) (sum_lines c.args.verdict.now) c.in_ok-put_judged.ensures last)
    c.put_sums.ensures
