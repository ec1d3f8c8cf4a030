use Rattle.std.proofs.Common.{ap, ◌∙◌}
use Rattle.aes_block.specs.State.{shift_rows}
use Rattle.aes_block.proofs.InverseLanes.{shifted_back_is}
use Rattle.aes_block.proofs.OtherBasis.{vector_is_block}
use Rattle.aes_block.proofs.Steps.{shift_rows-inverse}
use Rattle.aes_block.proofs.inverse_rounds.shifted_back.Goals as goal

pub returns : goal.returns
returns c =
    let v = c.args.octets in
    let is = vector_is_block v c.fits-octets in
    ap shift_rows (shifted_back_is v is) ∙ shift_rows-inverse.made v is
