use Rattle.std.proofs.Common.{◌++◌, length, take, drop, replicate, ap, ◌∙◌}
use Rattle.aes_block.specs.Octet.{octets_sum}
use Rattle.gcm_core.proofs.KeyStream.{sum-front}
use Rattle.gcm_core.proofs.counter.mask.Goals as goal

pub returns : goal.returns
returns c =
    let octets = c.args.octets.now in
    let block = c.args.block.now in
    c.copy_from_slice-2.ensures.after
    ∙ ap (take (length octets)) (c.xored.ensures
    ∙ ap (λ front. octets_sum (front ++ drop (length octets) (replicate 16 0)) block) c.copy_from_slice.ensures.after)
    ∙ sum-front octets (drop (length octets) (replicate 16 0)) block
