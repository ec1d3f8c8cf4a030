use Rattle.std.proofs.Common.{arith}
use Rattle.lan_schedule.proofs.RaceTold.{match-err, told-all, told-next, told-none, told-stops}
use Rattle.lan_schedule.proofs.weaving.tell_all.Goals as goal

pub loop-init : goal.loop-init
loop-init g c = λ all ready long. told-none g.R.Preparing.Ready g.R.Recorder.Took all _ _ ready

pub loop-preserved : goal.loop-preserved
loop-preserved g c = λ all ready long.
    told-next g.R.Preparing.Ready g.R.Recorder.Took all c.loop.counter c.args.count _ _ _ _ _ (omega arith) long
    (c.loop.invariant all ready long) c.in_ok-tell.ensures

pub returns-in_err-tell : goal.returns-in_err-tell
returns-in_err-tell g c = λ all ready long.
    match-err _ _ c.from_residual.result c.in_err-tell.field-0.0 c.from_residual.ensures.1
    (told-stops g.R.Preparing.Ready g.R.Recorder.Took all g.R.Recorder.Broke
    c.loop.counter c.args.count _ _ _ _ _ (omega arith) long (c.loop.invariant all ready long)
    c.in_err-tell.ensures)

pub returns : goal.returns
returns g c = λ all ready long.
    told-all g.R.Preparing.Ready g.R.Recorder.Took all c.loop.counter c.args.count _ _ _ (omega arith) long
    (c.loop.invariant all ready long)
