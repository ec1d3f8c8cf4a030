use Rattle.std.proofs.Common.{refl, ap, subst, sym, ◌∙◌}
use Rattle.std.specs.Prelude.{IfOk, is_some}
use Rattle.twin_schedule.specs.World.{waiting}
use Rattle.twin_schedule.specs.Stages.{StandsFor as StageStandsFor}
use Rattle.twin_schedule.specs.inside.Choosing.{begun_in}
use Rattle.twin_schedule.specs.Standing.{MayOpen}
use Rattle.twin_schedule.proofs.commands.TwinReplay.open.Goals as goal

pub returns-clause-stands : goal.returns-clause-stands
returns-clause-stands c =
    let named = ap (λ chosen. is_some chosen.group) c.replace-chosen.ensures.value ∙ c.requires in
    subst (λ chosen. IfOk c.new-2.result (StageStandsFor (begun_in (waiting c.args.self.now.line
    chosen c.args.self.now.second)))) c.replace-chosen.ensures.value
    (subst (λ second. IfOk c.new-2.result (StageStandsFor (begun_in (waiting c.args.self.now.line
    c.replace-chosen.result second)))) c.take.ensures.value
    (c.new-2.ensures.stands _ named refl))

pub returns-clause-memory : goal.returns-clause-memory
returns-clause-memory c = λ opens.
    let named = ap (λ chosen. is_some chosen.group) c.replace-chosen.ensures.value ∙ c.requires in
    c.new-2.ensures.memory named
    (subst (λ chosen. MayOpen chosen.group c.take.result) (sym c.replace-chosen.ensures.value)
    (subst (λ second. MayOpen c.args.self.now.chosen.group second) (sym c.take.ensures.value) opens))
