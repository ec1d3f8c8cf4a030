use Rattle.std.proofs.Common.{◌≡◌, ℕ, ◌-◌, subst, ◌∙◌, arith}
use Rattle.aes_block.specs.Expansion.{expanded_key, round_count, round_key}
use Rattle.aes_block.specs.Aes.{after_rounds}
use Rattle.aes_block.proofs.Cipher.{last_round-after}
use Rattle.aes_block.proofs.OtherBasis.{Holds, begun, vector_is_block, went_on}
use Rattle.aes_block.proofs.encryption.encrypt_by_halves.Goals as goal

pub loop-i-init : goal.loop-i-init
loop-i-init g c key rounds keys =
    begun (expanded_key key) c.args.block _ (vector_is_block c.args.block c.fits-block) (keys.blocks 0 (omega arith)) c.changed.ensures keys.first

pub loop-i-preserved : goal.loop-i-preserved
loop-i-preserved g c key rounds keys =
    went_on (expanded_key key) c.args.block c.loop-i.i c.loop-i.auto.i (keys.blocks c.loop-i.i (omega (arith, c.loop-i-test.true, c.requires.half)))
    (c.loop-i.invariant key rounds keys) (keys.between c.loop-i.i c.loop-i.auto.i (omega (arith, c.loop-i-test.true, c.requires.half))) c.round-state.ensures

pub loop-i-2-init : goal.loop-i-2-init
loop-i-2-init g c key rounds keys =
    let at : c.loop-i.i ≡ g.row.HALF = omega (arith, c.loop-i-test.false, c.loop-i.auto.i-end c.requires.some) in
    subst (λ (n : ℕ). Holds (expanded_key key) c.args.block (n - 1) c.loop-i.state) at (c.loop-i.invariant key rounds keys)

pub loop-i-2-preserved : goal.loop-i-2-preserved
loop-i-2-preserved g c key rounds keys =
    went_on (expanded_key key) c.args.block c.loop-i-2.i (omega (arith, c.requires.some, c.loop-i-2.auto.i)) (keys.blocks c.loop-i-2.i (omega (arith, c.loop-i-2-test.true)))
    (c.loop-i-2.invariant key rounds keys) (keys.between c.loop-i-2.i (omega (arith, c.requires.some, c.loop-i-2.auto.i)) c.loop-i-2-test.true) c.round-state-in-loop-i-2.ensures

pub returns : goal.returns
returns g c key rounds keys =
    let words = expanded_key key in
    let holds = c.loop-i-2.invariant key rounds keys in
    let n = g.row.ROUNDS in
    let at : c.loop-i-2.i ≡ round_count key = omega (arith, rounds, c.loop-i-2-test.false, c.loop-i-2.auto.i-end c.requires.half) in
    c.last_round.ensures (after_rounds words c.args.block (c.loop-i-2.i - 1)) (round_key words n) holds.after (keys.blocks n (omega arith)) holds.is keys.last
    ∙ last_round-after key c.args.block c.loop-i-2.i n at rounds
