use Rattle.std.proofs.Common.{sym, ◌∙◌}
use Rattle.std.specs.Prelude.{Ok}
use Rattle.lan_schedule.specs.Ends.{moment}
use Rattle.lan_schedule.proofs.RunsRaces.{runs-idle}
use Rattle.lan_schedule.proofs.Ending.{ended-keeps, ended-out, ended-runs, halted-keeps, halted-runs}
use Rattle.lan_schedule.proofs.commands.Replay.race.Goals as goal

pub returns-in_err-going-clause-race : goal.returns-in_err-going-clause-race
returns-in_err-going-clause-race g c = halted-runs _ _ (moment c.args.self.now c.args.outlet.now) _ _
    c.in_err-going.ensures.halted

pub returns-in_err-going-clause-keeps : goal.returns-in_err-going-clause-keeps
returns-in_err-going-clause-keeps g c = halted-keeps (moment c.args.self.now c.args.outlet.now) _ _
    c.in_err-going.ensures.halted c.from_residual.ensures.1

pub returns-then-not-controls-clause-race : goal.returns-then-not-controls-clause-race
returns-then-not-controls-clause-race g c =
    runs-idle (moment c.args.self.now c.args.outlet.now) (sym c.controls.ensures ∙ c.if-not-controls.true)

pub returns-then-not-controls-clause-keeps : goal.returns-then-not-controls-clause-keeps
returns-then-not-controls-clause-keeps g c =
    let now = moment c.args.self.now c.args.outlet.now in
    ended-keeps now now (Ok tt) c.in_ok-going.ensures.goes

pub returns-clause-race : goal.returns-clause-race
returns-clause-race g c = rw (c.ended.ensures.same, c.ended.ensures.left)
    (ended-runs _ _ _ (moment c.run_kept-outcome.new.self c.run_kept-outcome.new.outlet) _
    c.run_kept-outcome.ensures.runs)

pub returns-clause-seats : goal.returns-clause-seats
returns-clause-seats g c = rw c.ended.ensures.left
    (ended-out c.args.self.now c.run_kept-outcome.new.self c.run_kept-outcome.result
    c.run_kept-outcome.ensures.seats)

pub returns-clause-keeps : goal.returns-clause-keeps
returns-clause-keeps g c = rw (c.ended.ensures.same, c.ended.ensures.left)
    (ended-keeps (moment c.args.self.now c.args.outlet.now)
    (moment c.run_kept-outcome.new.self c.run_kept-outcome.new.outlet)
    c.run_kept-outcome.result c.in_ok-going.ensures.goes)
