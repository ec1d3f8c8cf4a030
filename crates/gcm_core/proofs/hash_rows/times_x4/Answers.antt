use Rattle.std.proofs.Common.{ap, ◌∙◌}
use Rattle.aes_block.specs.Product.{times_x}
use Rattle.gcm_core.specs.Ghash.{reduction}
use Rattle.gcm_core.specs.inside.Tables.{times_power}
use Rattle.gcm_core.proofs.hash_rows.times_x4.Goals as goal

pub returns : goal.returns
unfolding times_power
returns c =
    let x = times_x reduction in
    c.times_x-4.ensures ∙ ap x (c.times_x-3.ensures ∙ ap x (c.times_x-2.ensures ∙ ap x c.times_x.ensures))
