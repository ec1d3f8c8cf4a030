use Rattle.std.proofs.Common.{cond, sym, ap, ◌∙◌}
use Rattle.cak_roll.specs.declared.event.GroupNumber.TheVariants.{First, Second}
use Rattle.cak_roll.specs.Twin.{takes_part}
use Rattle.cak_roll.proofs.twin.Twin.carrier.Goals as goal

pub returns-then-transmits : goal.returns-then-transmits
returns-then-transmits c = λ pair users t stands.
    sym (ap (λ b. cond b Second (cond (takes_part First c.args.station t) First Second))
    (sym (c.transmits.ensures pair users t stands) ∙ c.if-transmits.true))

pub returns-then-takes_part : goal.returns-then-takes_part
returns-then-takes_part c = λ pair users t stands.
    sym (ap (λ b. cond b Second (cond (takes_part First c.args.station t) First Second))
    (sym (c.transmits.ensures pair users t stands) ∙ c.if-transmits.false)
    ∙ ap (λ b. cond b First Second)
    (sym (c.takes_part.ensures pair users t stands) ∙ c.if-takes_part.true))

pub returns : goal.returns
returns c = λ pair users t stands.
    sym (ap (λ b. cond b Second (cond (takes_part First c.args.station t) First Second))
    (sym (c.transmits.ensures pair users t stands) ∙ c.if-transmits.false)
    ∙ ap (λ b. cond b First Second)
    (sym (c.takes_part.ensures pair users t stands) ∙ c.if-takes_part.false))
