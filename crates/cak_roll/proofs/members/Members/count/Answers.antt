use Rattle.std.proofs.Common.{◌≡◌, length, sym, ap, ◌∙◌, subst, arith}
use Rattle.lan_core.specs.Run.{stations}
use Rattle.cak_roll.specs.declared.event.GroupNumber.TheVariants.{Second}
use Rattle.cak_roll.specs.Twin.{run_of}
use Rattle.cak_roll.specs.Standing.{AreMembers}
use Rattle.cak_roll.proofs.MembersFollow.{as-many-adopt}
use Rattle.cak_roll.proofs.members.Members.count.Goals as goal

pub returns-in-Second : goal.returns-in-Second
returns-in-Second c = λ pair users t run are.
    let st = subst (AreMembers t) (sym c.self.view_is) are in
    let same : length c.self.inside.adopters.items ≡ length (stations (run_of Second t)) =
    ap (λ ss. length ss) st.adopters ∙ as-many-adopt pair users t run in
    subst (λ g. c.len-in-Second.result ≡ length (stations (run_of g t))) (sym c.in-Second.is)
    (omega (arith, same, c.len-in-Second.ensures))
