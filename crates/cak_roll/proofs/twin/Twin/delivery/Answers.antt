use Rattle.std.proofs.Common.{sym, ◌∙◌, subst}
use Rattle.cak_roll.specs.Standing.{StandsFor}
use Rattle.cak_roll.proofs.Acts.{delivery-there, delivery-elsewhere}
use Rattle.cak_roll.proofs.twin.Twin.delivery.Goals as goal

pub returns-then-is : goal.returns-then-is
returns-then-is c = λ pair users t stands.
    let st = subst (λ held. StandsFor pair users held t) (sym c.self.view_is) stands in
    delivery-there pair t c.args.group c.args.of c.args.frame c.args.station _
    (sym c.is.ensures ∙ c.if-is.true) (c.place.ensures pair users t st.legal st.members)

pub returns : goal.returns
returns c = λ pair users t stands.
    delivery-elsewhere pair t c.args.group c.args.of c.args.frame c.args.station
    (sym c.is.ensures ∙ c.if-is.false)
