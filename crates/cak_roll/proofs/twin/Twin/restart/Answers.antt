use Rattle.std.proofs.Common.{sym, ◌∙◌, subst}
use Rattle.cak_roll.specs.Standing.{StandsFor}
use Rattle.cak_roll.proofs.Acts.{restart-there, restart-elsewhere}
use Rattle.cak_roll.proofs.twin.Twin.restart.Goals as goal

pub returns-then-takes_part : goal.returns-then-takes_part
returns-then-takes_part c = λ pair users t stands.
    let st = subst (λ held. StandsFor pair users held t) (sym c.self.view_is) stands in
    restart-there pair t c.args.group c.args.station _
    (sym (c.takes_part.ensures pair users t stands) ∙ c.if-takes_part.true)
    (c.place.ensures pair users t st.legal st.members)

pub returns : goal.returns
returns c = λ pair users t stands.
    restart-elsewhere pair t c.args.group c.args.station
    (sym (c.takes_part.ensures pair users t stands) ∙ c.if-takes_part.false)
