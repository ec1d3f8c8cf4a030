use Rattle.std.proofs.Common.{ap, ◌∙◌, arith}
use Rattle.aes_block.specs.Octet.{octets_sum}
use Rattle.aes_block.specs.State.{last_round, shift_rows, sub_bytes}
use Rattle.aes_block.proofs.Steps.{octets_sum-twice}
use Rattle.aes_block.proofs.inverse_rounds.inv_last_round.Goals as goal

pub returns : goal.returns
unfolding last_round sub_bytes
returns c =
    let key = c.args.key in
    ap (λ s. octets_sum (shift_rows s) key) c.inv_sub_octets.ensures
    ∙ ap (λ s. octets_sum s key) c.shifted_back.ensures
    ∙ octets_sum-twice c.args.state key (omega (arith, c.fits-state.0, c.fits-key.0))
