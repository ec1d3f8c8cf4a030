use Rattle.std.proofs.Common.{[], refl, subst}
use Rattle.lan_core.specs.declared.settings.Settings.{Settings}
use Rattle.lan_core.specs.Standing.{StandsFor as GroupStandsFor}
use Rattle.lan_schedule.proofs.Opening.{opens}
use Rattle.lan_schedule.proofs.stage.Stage.new.Goals as goal

pub returns-clause-stands : goal.returns-clause-stands
returns-clause-stands c = λ w tidy keyed opening.
    opens w c.args.chosen.now c.args.line _ keyed opening refl c.unwrap_or.ensures
    (λ users. subst (λ (s : Settings). GroupStandsFor s users c.in_ok-lan.lan [])
    c.in_ok-settings.ensures (c.in_ok-lan.ensures.stands users))
    c.in_ok-draws.ensures refl c.new.ensures
    c.new-2.ensures c.new-3.ensures c.new-4.ensures refl refl
