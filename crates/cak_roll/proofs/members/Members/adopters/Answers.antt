use Rattle.std.proofs.Common.{sym, subst, ◌∙◌}
use Rattle.cak_roll.specs.Standing.{AreMembers}
use Rattle.cak_roll.proofs.members.Members.adopters.Goals as goal

pub returns : goal.returns
returns c = λ t are.
    let st = subst (AreMembers t) (sym c.self.view_is) are in c.as_slice.ensures.value ∙ st.adopters
