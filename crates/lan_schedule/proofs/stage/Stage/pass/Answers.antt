use Rattle.std.proofs.Common.{arith, sym, ◌∙◌}
use Rattle.lan_schedule.proofs.Doing.{nothing-does}
use Rattle.lan_schedule.proofs.Looking.{pass-leads, passed-leads}
use Rattle.lan_schedule.proofs.stage.Stage.pass.Goals as goal

pub returns : goal.returns
returns g c =
    (pass-leads c.args.frame c.args.from c.args.station _ (grind arith)
    (sym c.is_cut.ensures ∙ c.if-is_cut.false)).leads _ _
    c.deliver.ensures

pub returns-then-station-from : goal.returns-then-station-from
returns-then-station-from g c =
    (passed-leads c.args.frame c.args.from c.args.station _ (grind arith)).leads _ _
    (nothing-does _)
