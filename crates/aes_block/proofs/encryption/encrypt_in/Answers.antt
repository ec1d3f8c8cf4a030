use Rattle.std.proofs.Common.{◌≡◌, ◌-◌, ◌∙◌, arith}
use Rattle.aes_block.specs.Expansion.{expanded_key, round_count, round_key}
use Rattle.aes_block.specs.Aes.{after_rounds}
use Rattle.aes_block.proofs.Cipher.{last_round-after}
use Rattle.aes_block.proofs.OtherBasis.{begun, vector_is_block, went_on}
use Rattle.aes_block.proofs.encryption.encrypt_in.Goals as goal

pub loop-i-init : goal.loop-i-init
loop-i-init g c key rounds keys =
    begun (expanded_key key) c.args.block _ (vector_is_block c.args.block c.fits-block) (keys.blocks 0 (omega arith)) c.changed.ensures keys.first

pub loop-i-preserved : goal.loop-i-preserved
loop-i-preserved g c key rounds keys =
    went_on (expanded_key key) c.args.block c.loop-i.i c.loop-i.auto.i (keys.blocks c.loop-i.i (omega (arith, c.loop-i-test.true)))
    (c.loop-i.invariant key rounds keys) (keys.between c.loop-i.i c.loop-i.auto.i c.loop-i-test.true) c.round-state.ensures

pub returns : goal.returns
returns g c key rounds keys =
    let words = expanded_key key in
    let holds = c.loop-i.invariant key rounds keys in
    let n = g.row.ROUNDS in
    let at : c.loop-i.i ≡ round_count key = omega (arith, rounds, c.loop-i-test.false, c.loop-i.auto.i-end c.requires.some) in
    c.last_round.ensures (after_rounds words c.args.block (c.loop-i.i - 1)) (round_key words n) holds.after (keys.blocks n (omega arith)) holds.is keys.last
    ∙ last_round-after key c.args.block c.loop-i.i n at rounds
