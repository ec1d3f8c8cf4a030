use Rattle.std.proofs.Common.{Some, sym, ap, ◌∙◌, subst}
use Rattle.std.specs.Prelude.{option_map}
use Rattle.cak_roll.specs.Standing.{StandsFor}
use Rattle.cak_roll.specs.Answers.{told_in}
use Rattle.cak_roll.proofs.TwinGoes.{one-happening}
use Rattle.cak_roll.proofs.twin.Twin.step.Goals as goal

pub returns-in-Ok-clause-facts : goal.returns-in-Ok-clause-facts
returns-in-Ok-clause-facts g c = λ pair users t stands may.
    let a = c.in-Ok.ensures.answers pair users t stands may in
    ap (option_map told_in) a.1.shows ∙ ap Some (sym a.1.tells)

pub returns-in-Ok-clause-stands : goal.returns-in-Ok-clause-stands
returns-in-Ok-clause-stands g c = λ pair users t x stands may is.
    let a = c.in-Ok.ensures.answers pair users t stands may in
    one-happening pair users t c.args.event.now _ _ _ _ a.0 x a.1 is

pub returns-in-Ok-clause-drawn : goal.returns-in-Ok-clause-drawn
returns-in-Ok-clause-drawn g c = λ pair users t stands may.
    (c.in-Ok.ensures.answers pair users t stands may).1.drawn

pub returns-in-Ok-clause-goes : goal.returns-in-Ok-clause-goes
returns-in-Ok-clause-goes g c = λ pair users t stands may.
    (c.in-Ok.ensures.answers pair users t stands may).1.goes

pub returns-in-Some-clause-refused : goal.returns-in-Some-clause-refused
returns-in-Some-clause-refused g c = λ pair users t stands may.
    let st = subst (λ held. StandsFor pair users held t) (sym c.self.view_is) stands in
    let goes = st.goes in
    absurd (cc (goes, c.in-Some.is))
