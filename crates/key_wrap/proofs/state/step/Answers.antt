use Rattle.std.proofs.Common.{◌≡◌, take, arith, ap, ◌∙◌}
use Rattle.aes_block.specs.Aes.{aes}
use Rattle.key_wrap.specs.Wrap.{numbered}
use Rattle.key_wrap.proofs.Steps.{same_step}
use Rattle.key_wrap.proofs.state.step.Goals as goal

pub returns : goal.returns
returns c =
    let first = c.first_block.result in
    let cipher : c.encrypt.result ≡ aes c.args.kek.now (take 16 c.args.state.now) = cc in
    same_step c.args.kek.now c.args.state.now c.numbered-block.result c.put_first_block.new.state c.turn.new.state c.args.number
    (omega arith) (c.numbered-block.ensures ∙ ap (λ b. numbered b c.args.number) cipher) c.put_first_block.ensures c.turn.ensures
