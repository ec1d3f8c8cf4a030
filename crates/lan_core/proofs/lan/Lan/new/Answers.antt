use Rattle.lan_core.proofs.EmptyGroup.{stands-for-none}
use Rattle.lan_core.proofs.lan.Lan.new.Goals as goal

pub returns-clause-stands : goal.returns-clause-stands
returns-clause-stands c users =
    rw (c.new.ensures, c.new-2.ensures, c.new-3.ensures, c.new-4.ensures, c.new-5.ensures, c.new-6.ensures)
    (stands-for-none c.args.settings users c.law_types_are_kept.ensures)
