use Rattle.std.proofs.Common.{rules, arith}
use Rattle.association_slots.proofs.SeatsKeep.{opens, each_shut}
use Rattle.association_slots.proofs.table.SlotTable.new.Goals as goal

pub of_words-requires : goal.of_words-requires
of_words-requires c = opens _ _ _ (omega (arith, c.requires.first, c.from.ensures)) (omega (arith, c.ranges.first.fits, c.from.ensures)) (search rules) (each_shut _ (search rules) (search rules) (search rules) (search rules)) (search rules)
