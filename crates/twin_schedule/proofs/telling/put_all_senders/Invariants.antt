use Rattle.std.proofs.Common.{◌≡◌, ◌++◌, take}
use Rattle.cak_roll.specs.declared.event.GroupNumber.TheVariants.{First, Second}
use Rattle.twin_schedule.specs.inside.Telling.{sent_in}
use Rattle.twin_schedule.proofs.telling.put_all_senders.Given as goal

abbrev pub invariant-loop-one : goal.invariant-loop-one
invariant-loop-one l = record {
  first : l.first.items ≡ l.fn.first.items ++ sent_in First (take l.one-index l.told);
  second : l.second.items ≡ l.fn.second.items ++ sent_in Second (take l.one-index l.told);
}
