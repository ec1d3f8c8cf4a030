use Rattle.std.proofs.lemmas.Result.{on_ok_weaker}
use Rattle.audit_report.specs.Report.{malformed_line, mka_line, packets_line, read_line, sec_line, undecided_line}
use Rattle.audit_report.specs.Unknown.{unknown_lines}
use Rattle.audit_report.proofs.Appending.{then}
use Rattle.audit_report.proofs.report.put_counts.Goals as goal

pub returns : goal.returns
returns c =
    let t = c.args.tally.now in
    on_ok_weaker c.put_malformed.result
    (λ last. then _ _ _ (read_line t.all c.args.ending) _ c.in_ok-put_read.ensures
    (then _ _ _ (packets_line t) _ c.in_ok-put_packets.ensures
    (then _ _ _ (mka_line t.mka) _ c.in_ok-put_mka.ensures
    (then _ _ _ (unknown_lines c.args.unknown.now) _ c.in_ok-put_unknown.ensures
    (then _ _ _ (sec_line t.sec) _ c.in_ok-put_sec.ensures
    (then _ _ _ (undecided_line t.sec.reasons) (malformed_line t.sec.malformations)
    c.in_ok-put_undecided.ensures last))))))
    c.put_malformed.ensures
