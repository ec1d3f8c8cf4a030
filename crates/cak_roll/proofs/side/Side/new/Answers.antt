use Rattle.std.proofs.Common.{refl}
use Rattle.cak_roll.proofs.SideGoes.{side-begins}
use Rattle.cak_roll.proofs.side.Side.new.Goals as goal

pub returns-clause-stands : goal.returns-clause-stands
returns-clause-stands c = λ users whole.
    side-begins c.args.settings users whole _ refl (c.in_ok-lan.ensures.stands users) c.new-2.ensures
    c.new-3.ensures.items
