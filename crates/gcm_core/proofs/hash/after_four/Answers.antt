use Rattle.std.proofs.Common.{◌≡◌, length, take, drop, ap, arith, rules, bit_xor}
use Rattle.std.proofs.lemmas.List.{take-take}
use lib.Lanes.{zip2}
use Rattle.gcm_core.specs.Blocks.{block_octets}
use Rattle.gcm_core.proofs.FourBlocks.{after_four_is}
use Rattle.gcm_core.proofs.hash.after_four.Goals as goal

pub returns : goal.returns
unfolding block_octets
returns c =
    let four = c.args.four.now in
    let long : length four ≡ 64 = search rules in
    after_four_is c.args.key.now c.args.before c.times_four.result four _ _ _ _ long
    (ap (λ os. zip2 bit_xor os (take 16 four)) c.to_be_bytes.ensures)
    (take-take 16 48 (drop 16 four) (omega arith)) (take-take 16 32 (drop 32 four) (omega arith)) (take-take 16 16 (drop 48 four) (omega arith))
    c.times_four.ensures
