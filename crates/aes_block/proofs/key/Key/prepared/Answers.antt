use Rattle.std.proofs.Common.{◌≡◌, ◌+◌, refl, arith}
use Rattle.aes_block.proofs.RoundKeys.{none_kept, one_kept}
use Rattle.aes_block.proofs.key.Key.prepared.Goals as goal

pub loop-i-init : goal.loop-i-init
loop-i-init c = none_kept c.args.expanded c.round_count-rounds.result _ refl

pub loop-i-preserved : goal.loop-i-preserved
loop-i-preserved c =
    one_kept c.args.expanded c.round_count-rounds.result c.loop-i.i c.loop-i.rows _ c.round_key.result (omega arith) c.round_key.ensures c.kept.ensures c.loop-i.invariant

pub invariant_of-result : goal.invariant_of-result
invariant_of-result c =
    let all : c.loop-i.i ≡ c.round_count-rounds.result + 1 = omega arith in
    record {
      is_key = c.round_count-rounds.ensures.key;
      count = c.round_count-rounds.ensures.count;
      two = c.round_count-rounds.ensures.length;
      are = λ i le. c.loop-i.invariant.are i (omega (arith, all, le));
    }
