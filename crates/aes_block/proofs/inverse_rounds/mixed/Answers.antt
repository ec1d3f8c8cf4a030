use Rattle.std.proofs.Common.{ap, ◌∙◌}
use Rattle.aes_block.proofs.InverseLanes.{mixed_is, mixed_of}
use Rattle.aes_block.proofs.OtherBasis.{vector_is_block}
use Rattle.aes_block.proofs.inverse_rounds.mixed.Goals as goal

pub returns : goal.returns
returns c =
    let v = c.args.octets in
    ap (mixed_of v) c.doubled-twice.ensures ∙ mixed_is v (vector_is_block v c.fits-octets)
