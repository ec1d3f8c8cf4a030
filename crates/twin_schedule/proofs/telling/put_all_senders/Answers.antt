use Rattle.std.proofs.Common.{arith}
use Rattle.cak_roll.specs.declared.event.GroupNumber.TheVariants.{First, Second}
use Rattle.twin_schedule.proofs.Told.{sent-more}
use Rattle.twin_schedule.proofs.telling.put_all_senders.Goals as goal

pub loop-one-preserved : goal.loop-one-preserved
loop-one-preserved c = record {
  first = sent-more First c.args.told.now c.loop-one.one-index c.one-item.result _ _ _ (omega arith)
      c.one-item.is c.loop-one.invariant.first c.in_ok-put_told.ensures.first;
  second = sent-more Second c.args.told.now c.loop-one.one-index c.one-item.result _ _ _ (omega arith)
      c.one-item.is c.loop-one.invariant.second c.in_ok-put_told.ensures.second;
}
