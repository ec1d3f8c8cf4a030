use Rattle.std.proofs.Common.{◌+◌, Ok, sym, ap, ◌∙◌, subst}
use Rattle.lan_core.specs.Standing.{AreDrawn}
use Rattle.cak_roll.specs.Standing.{Held, IfThere}
use Rattle.cak_roll.specs.inside.Parts.{events_of_part}
use Rattle.cak_roll.specs.inside.Turns.{HappenThere}
use Rattle.cak_roll.proofs.TurnGoes.{there-some, there-none}
use Rattle.cak_roll.proofs.twin.Twin.run_second.Goals as goal

pub returns-in-Some-clause-happens : goal.returns-in-Some-clause-happens
returns-in-Some-clause-happens g c settings users r both stands are next ready none =
    there-some settings users r both (events_of_part c.args.part.now) _ _ _ _ _ _ _
    (c.run.ensures settings users r both
    (subst (IfThere settings users r both) c.in-Some.is
    (subst (λ (h : Held). IfThere settings users r both h.second) (sym c.self.view_is) stands))
    (subst (λ (h : Held). AreDrawn settings.suite both h.drawn) (sym c.self.view_is) are)
    (next ∙ ap (λ (h : Held). h.drawn.count + 1) (sym c.self.view_is)) ready)

pub returns-in-None-clause-happens : goal.returns-in-None-clause-happens
returns-in-None-clause-happens g c settings users r both stands are next ready none =
    let before = g.D.Draws.nth c.args.draws.now in
    subst (λ o. HappenThere settings users r both (events_of_part c.args.part.now) before before o
    c.self.inside.drawn c.args.told.now c.args.told.now (Ok tt)) (sym c.in-None.is)
    (there-none settings users r both (events_of_part c.args.part.now) before c.self.inside.drawn
    c.args.told.now
    (subst (IfThere settings users r both) c.in-None.is
    (subst (λ (h : Held). IfThere settings users r both h.second) (sym c.self.view_is) stands))
    (subst (λ (h : Held). AreDrawn settings.suite both h.drawn) (sym c.self.view_is) are)
    (none (sym (ap (λ (h : Held). h.second) c.self.view_is) ∙ c.in-None.is)))
