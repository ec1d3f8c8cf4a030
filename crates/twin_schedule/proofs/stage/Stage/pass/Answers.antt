use Rattle.std.proofs.Common.{sym, ◌∙◌}
use Rattle.cak_roll.specs.declared.event.TwinEvent.TheVariants.{Deliver}
use Rattle.twin_schedule.specs.Acts.{happen}
use Rattle.twin_schedule.specs.Lines.{is_passed_by}
use Rattle.twin_schedule.proofs.Doing.{unless-does, unless-skips}
use Rattle.twin_schedule.proofs.Happening.{plainly}
use Rattle.twin_schedule.proofs.stage.Stage.pass.Goals as goal

pub returns-then-passes_by : goal.returns-then-passes_by
returns-then-passes_by g c =
    unless-skips (is_passed_by c.args.group c.args.from c.args.station)
    (λ w. happen (Deliver c.args.group c.args.frame c.args.station)) _
    (λ w stands. sym (c.passes_by.ensures w stands) ∙ c.if-passes_by.true)

pub returns : goal.returns
returns g c =
    unless-does (is_passed_by c.args.group c.args.from c.args.station)
    (happen (Deliver c.args.group c.args.frame c.args.station)) _ _ _
    (λ w stands. sym (c.passes_by.ensures w stands) ∙ c.if-passes_by.false)
    (plainly (Deliver c.args.group c.args.frame c.args.station) _ _ _ (λ users. tt)
    c.happen.ensures)
