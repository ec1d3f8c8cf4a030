use Rattle.std.proofs.Common.{None, refl, sym, ◌∙◌}
use Rattle.lan_schedule.specs.declared.phase.Phase.TheVariants as stood
use Rattle.lan_schedule.specs.Races.{Controlling}
use Rattle.lan_schedule.proofs.Commanding.{none-of}
use Rattle.lan_schedule.proofs.Refusing.{deed-at}
use Rattle.lan_schedule.proofs.Phasing.{control-err, control-none, control-ok, enters-handed}
use Rattle.lan_schedule.proofs.phase.behind_while.Goals as goal

pub returns-in_default : goal.returns-in_default
returns-in_default c = λ w reached goes. rw c.refused.ensures
    (control-none c.args.line w c.args.stage.now c.args.bursts.items c.args.control.items reached goes
    (deed-at c.args.line w c.args.stage.now None reached
    (λ few. sym (none-of c.deed.result c.in_default.not-Some) ∙ c.deed.ensures.is few)))

pub returns : goal.returns
returns c = λ w reached goes.
    control-ok c.args.line w c.args.stage.now c.args.bursts.items c.args.control.items
    c.in-Some.deed (stood.Controlling c.args.bursts c.in_ok-control.control)
    c.in_ok-control.control.items reached goes
    (deed-at c.args.line w c.args.stage.now _ reached c.in-Some.ensures.is) refl
    c.in_ok-control.ensures.kept

pub returns-in_err-control : goal.returns-in_err-control
returns-in_err-control c = λ w reached goes.
    enters-handed c.args.line w (Controlling c.args.bursts.items c.args.control.items) _ _
    (control-err c.args.line w c.args.stage.now c.args.bursts.items c.args.control.items
    c.in-Some.deed _ reached goes
    (deed-at c.args.line w c.args.stage.now _ reached c.in-Some.ensures.is)
    c.in_err-control.ensures.refused)
    c.from_residual.ensures.1
