use Rattle.std.proofs.Common.{◌≡◌, ◌*◌, ◌/◌, [], ◌++◌, length, take, drop, get_or, replicate, refl, sym, ap, ◌∙◌, add-one, arith}
use Rattle.std.proofs.Math.Seq.{take-append_seam}
use Rattle.aes_block.specs.Octet.{octets_sum}
use Rattle.aes_cmac.specs.Cmac.{before_last, chain_after}
use Rattle.aes_cmac.proofs.Chain.{chain-more, cmac-whole}
use Rattle.aes_cmac.proofs.whole.cmac.Goals as goal

pub loop-block-init : goal.loop-block-init
unfolding chain_after
loop-block-init c = refl

pub loop-block-preserved : goal.loop-block-preserved
loop-block-preserved c =
    let i = c.loop-block.block-index in
    let before = c.split_at.result.0.now in
    chain-more c.args.key.now c.args.message.now before c.split_at.result.1.now (length before / 16) i c.loop-block.chain c.xored.result
    c.encrypt-chain.result c.split_at.ensures.by_index.0 (omega arith) (omega (arith, c.loop-block-test.true, c.as_chunks.ensures.front_len))
    c.loop-block.invariant (c.xored.ensures ∙ ap (λ l. octets_sum c.loop-block.chain (get_or l i [])) c.as_chunks.ensures.front)
    c.encrypt-chain.ensures.ciphertext
    ∙ ap (chain_after c.args.key.now c.args.message.now) (sym (add-one i))

pub returns : goal.returns
returns c =
    let message = c.args.message.now in
    let rest = c.split_at.result.1.now in
    let n = c.loop-block.block-index in
    let at : n ≡ before_last message =
    omega (arith, c.saturating_sub.ensures, c.split_at.ensures.front_len, c.as_chunks.ensures.front_len, c.loop-block-test.false, c.loop-block.auto.block-index-end) in
    let place : c.saturating_sub.result / 16 * 16 ≡ 16 * n = omega (arith, c.saturating_sub.ensures, at) in
    c.encrypt.ensures.ciphertext
    ∙ cmac-whole c.args.key.now message rest _ _ _ n c.loop-block.chain at (c.split_at.ensures.back ∙ ap (λ k. drop k message) place)
    (ap (λ f. take (length rest) (f ++ drop (length rest) (replicate 16 0))) c.copy_from_slice.ensures.after ∙ take-append_seam rest _)
    c.loop-block.invariant c.last_block.ensures c.xored-2.ensures
