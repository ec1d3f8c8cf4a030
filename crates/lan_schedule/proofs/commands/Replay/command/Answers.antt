use Rattle.lan_schedule.specs.Ends.{moment}
use Rattle.lan_schedule.proofs.Ending.{ended-keeps, ended-performs, halted-keeps, halted-performs}
use Rattle.lan_schedule.proofs.commands.Replay.command.Goals as goal

pub returns-in_err-going-clause-performs : goal.returns-in_err-going-clause-performs
returns-in_err-going-clause-performs g c = halted-performs _ _ _
    (moment c.args.self.now c.args.outlet.now) _ _ c.in_err-going.ensures.halted

pub returns-in_err-going-clause-keeps : goal.returns-in_err-going-clause-keeps
returns-in_err-going-clause-keeps g c = halted-keeps (moment c.args.self.now c.args.outlet.now) _ _
    c.in_err-going.ensures.halted c.from_residual.ensures.1

pub returns-clause-performs : goal.returns-clause-performs
returns-clause-performs g c = rw (c.ended.ensures.same, c.ended.ensures.left)
    (ended-performs _ _ _ _ (moment c.perform_line-outcome.new.self c.perform_line-outcome.new.outlet)
    _ c.perform_line-outcome.ensures)

pub returns-clause-keeps : goal.returns-clause-keeps
returns-clause-keeps g c = rw (c.ended.ensures.same, c.ended.ensures.left)
    (ended-keeps (moment c.args.self.now c.args.outlet.now)
    (moment c.perform_line-outcome.new.self c.perform_line-outcome.new.outlet)
    c.perform_line-outcome.result c.in_ok-going.ensures.goes)
