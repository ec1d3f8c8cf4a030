use Rattle.std.proofs.Common.{◌++◌, refl}
use Rattle.std.proofs.lemmas.Result.{err_from_is_err_and}
use Rattle.lan_base.specs.Faults.{Rose}
use Rattle.audit_report.specs.Report.{end_lines}
use Rattle.capture_audit.proofs.Reporting.{ends-of, no-memory, reported, write-ends}
use Rattle.capture_audit.proofs.auditing.report.Goals as goal

pub returns-in_err-verdict-clause-reports : goal.returns-in_err-verdict-clause-reports
returns-in_err-verdict-clause-reports g c = λ text ring left held faults faults_then head so read.
    let p = err_from_is_err_and c.from_residual.result c.from_residual.ensures.1 in
    let now = g.K.Sink.held c.args.sink.now in
    rw (p.1, p.2) (no-memory c.args.asks text ring left held now now c.args.ending c.args.auditor.now c.args.batch.now head read (Rose faults faults_then))

pub returns-in_err-write_end-clause-reports : goal.returns-in_err-write_end-clause-reports
returns-in_err-write_end-clause-reports g c = λ text ring left held faults faults_then head so read.
    let p = err_from_is_err_and c.from_residual-in_err-write_end.result c.from_residual-in_err-write_end.ensures.1 in
    let now = g.K.Sink.held c.args.sink.now in
    let lines = c.args.batch.now.text.items ++ end_lines c.args.auditor.now.tally c.in_ok-verdict.verdict c.args.ending in
    rw (p.1, p.2) (write-ends c.args.asks text ring left held now (g.K.Sink.held c.write_end.new.sink) c.args.ending
    c.args.auditor.now c.args.batch.now head read (Rose faults faults_then) c.in_ok-verdict.verdict lines c.in_err-write_end.field-0.0
    refl (c.in_ok-verdict.ensures ring read.packets read.keeps) c.in_err-write_end.ensures.writes)

pub returns-clause-reports : goal.returns-clause-reports
returns-clause-reports g c = λ text ring left held faults faults_then head so read.
    let now = g.K.Sink.held c.args.sink.now in
    let then = g.K.Sink.held c.write_end.new.sink in
    let lines = c.args.batch.now.text.items ++ end_lines c.args.auditor.now.tally c.in_ok-verdict.verdict c.args.ending in
    rw (c.end_of.ensures, c.blame.ensures) (ends-of c.args.asks text left held then (Rose faults faults_then) _ c.args.ending so
    (reported c.args.asks text ring left held now then c.args.ending c.args.auditor.now c.args.batch.now head read
    c.in_ok-verdict.verdict lines refl
    (c.in_ok-verdict.ensures ring read.packets read.keeps) c.in_ok-write_end.ensures.writes))
