use Rattle.std.proofs.Common.{refl, ap}
use Rattle.lan_schedule.specs.inside.Weaves.{reports_with}
use Rattle.lan_schedule.proofs.RaceTold.{race-broken, race-handed, race-told, race-wanting, reports-many}
use Rattle.lan_schedule.proofs.stage.Stage.end_race.Goals as goal

pub returns-in_err-tell_all-in-Ok-prepare-clause-ends : goal.returns-in_err-tell_all-in-Ok-prepare-clause-ends
returns-in_err-tell_all-in-Ok-prepare-clause-ends g c =
    race-handed g.R.Recorder.Took g.R.Recorder.Broke c.args.before c.args.ran _ _ _
    c.from_residual.result
    (race-broken g.R.Recorder.Took g.R.Recorder.Broke c.args.before c.args.ran c.args.self.now
    (record c.args.self.now { line = c.args.before.line; tally = c.copied-self.result })
    c.weave.new.self c.args.outlet.now
    (ap (λ tally. record c.args.self.now { line = c.args.before.line; tally = tally })
    c.copied-self.ensures) c.in-Ok.shown c.in-Ok.came c.tell_all.new.outlet
    c.in_err-tell_all-in-Ok-prepare.field-0.0 c.in-Ok.ensures.weaves
    (c.in_err-tell_all-in-Ok-prepare.ensures (reports_with c.weave.new.self.lan.names c.in-Ok.shown)
    (rw c.names.ensures.names at c.in-Ok-prepare.ensures.1)
    (reports-many c.weave.new.self.lan.names c.in-Ok.shown c.in-Ok-prepare.count c.in-Ok-prepare.ensures.0)))
    c.from_residual.ensures.1

pub returns-in-Ok-prepare-clause-ends : goal.returns-in-Ok-prepare-clause-ends
returns-in-Ok-prepare-clause-ends g c =
    race-told g.R.Recorder.Took g.R.Recorder.Broke c.args.before c.args.ran c.args.self.now
    (record c.args.self.now { line = c.args.before.line; tally = c.copied-self.result })
    c.weave.new.self c.args.outlet.now
    (ap (λ tally. record c.args.self.now { line = c.args.before.line; tally = tally })
    c.copied-self.ensures) c.in-Ok.shown c.in-Ok.came c.tell_all.new.outlet c.in-Ok.ensures.weaves
    (c.in_ok-tell_all-in-Ok-prepare.ensures (reports_with c.weave.new.self.lan.names c.in-Ok.shown)
    (rw c.names.ensures.names at c.in-Ok-prepare.ensures.1)
    (reports-many c.weave.new.self.lan.names c.in-Ok.shown c.in-Ok-prepare.count c.in-Ok-prepare.ensures.0))

pub returns-in-Ok-clause-ends : goal.returns-in-Ok-clause-ends
returns-in-Ok-clause-ends g c =
    race-wanting g.R.Recorder.Took g.R.Recorder.Broke c.args.before c.args.ran c.args.self.now _
    c.args.outlet.now refl

pub returns-clause-ends : goal.returns-clause-ends
returns-clause-ends g c =
    race-wanting g.R.Recorder.Took g.R.Recorder.Broke c.args.before c.args.ran c.args.self.now _
    c.args.outlet.now refl
