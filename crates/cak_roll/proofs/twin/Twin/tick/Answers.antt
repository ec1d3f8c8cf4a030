use Rattle.std.proofs.Common.{sym, ◌∙◌, subst}
use Rattle.cak_roll.specs.Standing.{StandsFor}
use Rattle.cak_roll.proofs.Acts.{tick-there, tick-elsewhere}
use Rattle.cak_roll.proofs.twin.Twin.tick.Goals as goal

pub returns-then-is : goal.returns-then-is
returns-then-is c = λ pair users t stands.
    let st = subst (λ held. StandsFor pair users held t) (sym c.self.view_is) stands in
    tick-there pair t c.args.group c.args.of c.args.station _ _ (sym c.is.ensures ∙ c.if-is.true)
    (c.place.ensures pair users t st.legal st.members) (c.next.ensures pair users t stands)

pub returns : goal.returns
returns c = λ pair users t stands.
    tick-elsewhere pair t c.args.group c.args.of c.args.station (sym c.is.ensures ∙ c.if-is.false)
