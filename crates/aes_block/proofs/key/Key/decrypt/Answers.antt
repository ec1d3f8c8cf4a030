use Rattle.std.proofs.Common.{◌≡◌, ◌+◌, ◌-◌, length, sym, ap, subst, ◌∙◌, arith}
use Rattle.aes_block.specs.Octet.{octets_sum}
use Rattle.aes_block.specs.State.{round, last_round}
use Rattle.aes_block.specs.Expansion.{expanded_key}
use Rattle.aes_block.specs.Aes.{IsBlock, aes, after_rounds}
use Rattle.aes_block.proofs.Steps.{octets_sum-inverse, octets_sum-twice, same_source}
use Rattle.aes_block.proofs.KeyBlocks.{IsBlock-round_key, aes-inverse, inv_aes}
use Rattle.aes_block.proofs.OtherBasis.{vector_is_block}
use Rattle.aes_block.proofs.Cipher.{after_rounds-more, after_rounds-none, last_round-after}
use Rattle.aes_block.proofs.key.Key.decrypt.Goals as goal

pub loop-i-init : goal.loop-i-init
loop-i-init c = λ text is.
    let rounds = c.round_count-rounds.ensures.count in
    sym (last_round-after c.args.self.now text c.round_count-rounds.result c.round_count-rounds.result rounds rounds)
    ∙ (λ i. last_round (is i) (sym c.round_key.ensures i)) ∙ c.inv_last_round-state.ensures

pub loop-i-preserved : goal.loop-i-preserved
loop-i-preserved c = λ text is.
    let words = expanded_key c.args.self.now in
    let here : c.loop-i.i - 1 ≡ c.loop-i.i - 1 + 1 - 1 = omega arith in
    c.loop-i.invariant text
    (ap (after_rounds words text) here ∙ sym (after_rounds-more words text (c.loop-i.i - 1) (omega arith))
    ∙ (λ i. round (is i) (sym c.round_key-in-loop-i.ensures i)) ∙ c.inv_round-state.ensures)

pub returns-clause-undone : goal.returns-clause-undone
returns-clause-undone c =
    let words = expanded_key c.args.self.now in
    let state = c.loop-i.state in
    let key = c.round_key-2.result in
    let first = IsBlock-round_key c.args.self.now c.round_count-rounds.ensures.key 0 (omega arith) in
    c.loop-i.invariant (octets_sum state key)
    (after_rounds-none words (octets_sum state key) c.loop-i.i c.loop-i-test.false
    ∙ ap (octets_sum (octets_sum state key)) (sym c.round_key-2.ensures)
    ∙ octets_sum-twice state key (c.loop-i.auto.state.0 ∙ sym (ap length c.round_key-2.ensures ∙ first.count)))

pub returns-clause-only : goal.returns-clause-only
returns-clause-only c = λ text h is.
    let key = c.args.self.now in
    let first = subst IsBlock (sym c.round_key-2.ensures) (IsBlock-round_key key c.round_count-rounds.ensures.key 0 (omega arith)) in
    let state = vector_is_block c.loop-i.state c.loop-i.auto.state in
    same_source (aes key) (inv_aes key) (aes-inverse key c.round_count-rounds.ensures.key) (octets_sum c.loop-i.state c.round_key-2.result) text
    ((octets_sum-inverse c.round_key-2.result first).keeps c.loop-i.state state) h
    (returns-clause-undone c ∙ sym is)
