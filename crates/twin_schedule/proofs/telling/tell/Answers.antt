use Rattle.std.proofs.Common.{arith}
use Rattle.twin_schedule.specs.inside.Telling.{report_with}
use Rattle.twin_schedule.proofs.Told.{told-more, told-upto}
use Rattle.twin_schedule.proofs.telling.tell.Goals as goal

pub returns-in_err-record : goal.returns-in_err-record
returns-in_err-record g c =
    told-upto g.R.TwinRecorder.Took g.R.TwinRecorder.Broke
    (report_with c.args.first.now c.args.second.now) c.args.told.now c.loop-one.one-index
    c.one-item.result c.args.outlet.now c.loop-one.outlet c.record.new.outlet
    c.in_err-record.field-0.0 c.from_residual.result (omega arith) c.one-item.is
    c.loop-one.invariant
    (rw (c.names_in-names.ensures, c.as_slice.ensures) at c.in_err-record.ensures)
    c.from_residual.ensures.1

pub loop-one-preserved : goal.loop-one-preserved
loop-one-preserved g c =
    told-more g.R.TwinRecorder.Took (report_with c.args.first.now c.args.second.now)
    c.args.told.now c.loop-one.one-index c.one-item.result c.args.outlet.now c.loop-one.outlet
    c.record.new.outlet (omega arith) c.one-item.is c.loop-one.invariant
    (rw (c.names_in-names.ensures, c.as_slice.ensures) at c.in_ok-record.ensures)
