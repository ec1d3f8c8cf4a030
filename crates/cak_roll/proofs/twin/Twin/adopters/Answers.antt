use Rattle.std.proofs.Common.{sym, subst}
use Rattle.cak_roll.specs.Standing.{StandsFor}
use Rattle.cak_roll.proofs.twin.Twin.adopters.Goals as goal

pub returns : goal.returns
returns c = λ pair users t stands.
    let st = subst (λ held. StandsFor pair users held t) (sym c.self.view_is) stands in
    c.adopters.ensures t st.members
