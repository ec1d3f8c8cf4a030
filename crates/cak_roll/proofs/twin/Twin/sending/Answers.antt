use Rattle.std.proofs.Common.{sym, ap, ◌∙◌, subst}
use Rattle.cak_roll.specs.Standing.{StandsFor}
use Rattle.cak_roll.specs.Twin.{same_group}
use Rattle.cak_roll.proofs.Acts.{send-there, send-elsewhere}
use Rattle.cak_roll.proofs.twin.Twin.sending.Goals as goal

pub returns-then-is : goal.returns-then-is
returns-then-is c = λ pair users t stands.
    let st = subst (λ held. StandsFor pair users held t) (sym c.self.view_is) stands in
    let carried = ap (λ g. same_group g c.args.group) (sym (c.carrier.ensures pair users t stands)) in
    c.sent.ensures
    ∙ send-there pair t c.args.group c.args.station c.args.user c.place-place.result c.to_claim.result
    (carried ∙ sym c.is.ensures ∙ c.if-is.true)
    (c.place-place.ensures pair users t st.legal st.members) (c.to_claim.ensures pair users t stands)

pub returns : goal.returns
returns c = λ pair users t stands.
    let carried = ap (λ g. same_group g c.args.group) (sym (c.carrier.ensures pair users t stands)) in
    send-elsewhere pair t c.args.group c.args.station c.args.user
    (carried ∙ sym c.is.ensures ∙ c.if-is.false)
