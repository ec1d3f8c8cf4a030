use Rattle.std.proofs.Common.{◌∙◌, Ok, sym, ap}
use Rattle.std.specs.Prelude.{Option}
use Rattle.std.proofs.lemmas.Result.{err_from_is_err_and}
use Rattle.audit_report.specs.declared.ending.Ending.{Ending}
use Rattle.lan_base.specs.Ranges.{most_input}
use Rattle.capture_audit.proofs.Going.{not-read, settle-all, settle-stops, take-one}
use Rattle.capture_audit.proofs.reading.read_one.Goals as goal

pub returns-in_err-ending_of-clause-reads : goal.returns-in_err-ending_of-clause-reads
returns-in_err-ending_of-clause-reads g c = λ asks ring told held at.
    let p = err_from_is_err_and c.from_residual.result c.from_residual.ensures.1 in
    rw (p.1, p.2) (not-read asks ring told held c.args.reader.now c.read.new.self _ (g.S.Source.left c.read.new.source) _
    (g.K.Sink.held c.args.sink.now) _ _ at c.read.new.self c.args.auditor.now c.args.batch.now
    c.read.result c.in_err-ending_of.field-0.0 (sym c.in_err-ending_of.ensures))

pub returns-in-None-clause-reads : goal.returns-in-None-clause-reads
returns-in-None-clause-reads g c = λ asks ring told held at.
    rw c.limit_of.ensures (take-one asks ring told held c.args.reader.now c.read.new.self _ _ _ _ _ _ at c.read.new.packet _ _
    c.read.result c.take.result (c.read.ensures.start, λ text packets t tells. c.read.ensures.reads most_input text packets t tells)
    (sym c.in_ok-ending_of.ensures ∙ ap (λ (o : Option Ending). Ok o) c.in-None.is)
    (c.take.ensures.takes asks ring at.before at.waiting at.written at.stands))

pub returns-in_err-settle-in-Some-clause-reads : goal.returns-in_err-settle-in-Some-clause-reads
returns-in_err-settle-in-Some-clause-reads g c = λ asks ring told held at.
    let p = err_from_is_err_and c.from_residual-in_err-settle-in-Some.result c.from_residual-in_err-settle-in-Some.ensures.1 in
    rw (p.1, p.2) (settle-stops asks ring told held c.args.reader.now c.read.new.self _ (g.S.Source.left c.read.new.source) _ _ _ _ at
    c.read.new.self c.settle.new.auditor c.settle.new.self
    c.in_err-settle-in-Some.field-0.0
    (c.in_err-settle-in-Some.ensures.settles asks ring at.before at.waiting at.written at.stands))

pub returns-in_ok-settle-in-Some-clause-reads : goal.returns-in_ok-settle-in-Some-clause-reads
returns-in_ok-settle-in-Some-clause-reads g c = λ asks ring told held at.
    settle-all asks ring told held c.args.reader.now c.read.new.self _ _ _ _ _ _ at c.read.new.packet _ _
    c.read.result c.in-Some.ending (c.read.ensures.start, λ text packets t tells. c.read.ensures.reads most_input text packets t tells)
    (sym c.in_ok-ending_of.ensures ∙ ap (λ (o : Option Ending). Ok o) c.in-Some.is)
    (c.in_ok-settle-in-Some.ensures.settles asks ring at.before at.waiting at.written at.stands)
