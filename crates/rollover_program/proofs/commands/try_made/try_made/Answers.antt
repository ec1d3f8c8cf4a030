use Rattle.std.proofs.Common.{◌∙◌}
use Rattle.rollover_program.proofs.Carried.{not_tried, tried}
use Rattle.rollover_program.proofs.commands.try_made.try_made.Goals as goal

pub returns-in_default-clause-ends : goal.returns-in_default-clause-ends
returns-in_default-clause-ends g c =
    not_tried c.law_tidy_runs_are_promised.ensures c.law_lines_leave_a_tidy_world.ensures.start
    c.args.number _

pub returns-clause-ends : goal.returns-clause-ends
returns-clause-ends g c = tried c.args.number _ _ _ _ c.run.result
    (c.new-source.ensures ∙ c.of.ensures ∙ c.in-Ok.ensures) c.run.ensures.carried.ends
