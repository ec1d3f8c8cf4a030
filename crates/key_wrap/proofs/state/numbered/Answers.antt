use Rattle.std.proofs.Common.{◌++◌, replicate, ap, ◌∙◌, arith}
use Rattle.aes_block.specs.Octet.{octets_sum}
use Rattle.std.specs.Int.{w64, to_be_bytes}
use Rattle.key_wrap.proofs.Numbered.{front_added}
use Rattle.key_wrap.proofs.state.numbered.Goals as goal

pub returns : goal.returns
returns c =
    let block = c.args.block in
    let octets = to_be_bytes w64 c.args.number in
    c.xored.ensures
    ∙ ap (λ front. octets_sum block (front ++ replicate 8 0)) (c.copy_from_slice.ensures.after ∙ c.to_be_bytes.ensures)
    ∙ front_added block octets 8 (omega arith)
