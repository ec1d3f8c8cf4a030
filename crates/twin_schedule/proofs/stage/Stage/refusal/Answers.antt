use Rattle.std.proofs.Common.{refl, sym, ◌∙◌}
use Rattle.twin_schedule.proofs.Refusing.{if-none, refused-first}
use Rattle.twin_schedule.proofs.stage.Stage.refusal.Goals as goal

pub returns-then-may_stand-clause-first : goal.returns-then-may_stand-clause-first
returns-then-may_stand-clause-first c = λ w reached.
    refused-first c.args.line.now w _ _
    (sym c.if-may_stand.true ∙ c.may_stand.ensures.stands w reached.stands)
    (c.wrong.ensures w reached)

pub returns-then-may_stand-clause-later : goal.returns-then-may_stand-clause-later
returns-then-may_stand-clause-later c =
    if-none _ _ (c.may_stand.ensures.later c.if-may_stand.true)

pub returns-else-may_stand-clause-first : goal.returns-else-may_stand-clause-first
returns-else-may_stand-clause-first c = λ w reached.
    refused-first c.args.line.now w _ _
    (sym c.if-may_stand.false ∙ c.may_stand.ensures.stands w reached.stands) refl
