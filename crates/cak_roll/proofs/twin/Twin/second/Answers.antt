use Rattle.std.proofs.Common.{◌≡◌, refl, sym, ap, ◌∙◌, subst}
use Rattle.cak_roll.specs.Standing.{Held, StandsFor}
use Rattle.cak_roll.specs.Answers.{another}
use Rattle.cak_roll.proofs.TwinBegins.{begins-second, no-fault, stands-alone}
use Rattle.cak_roll.proofs.twin.Twin.second.Goals as goal

pub returns-in-Ok-clause-stands : goal.returns-in-Ok-clause-stands
returns-in-Ok-clause-stands c = λ pair users t stands.
    let st = subst (λ held. StandsFor pair users held t) (sym c.self.view_is) stands in
    let same : c.with_key-settings.result ≡ another pair.first c.args.cak c.args.ckn =
    c.with_key-settings.ensures ∙ ap (λ s. another s c.args.cak c.args.ckn) st.set_up.first in
    begins-second pair users _ _ t c.args.cak c.args.ckn c.in-Ok.second _ st
    (ap (λ (h : Held). h.second) c.self.view_is
    ∙ no-fault c.args.self.now c.as_slice.result.now (sym c.second_fault.ensures ∙ c.in_default.is))
    (stands-alone c.with_key-settings.result (another pair.first c.args.cak c.args.ckn) users
    c.in-Ok.second same (λ whole. c.in-Ok.ensures.stands users whole))
    c.put.ensures refl
