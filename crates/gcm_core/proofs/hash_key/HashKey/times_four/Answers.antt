use Rattle.std.proofs.Common.{ℕ, ap, ◌∙◌}
use Rattle.aes_block.specs.Product.{sum_of}
use Rattle.gcm_core.specs.Blocks.{block_bits}
use Rattle.gcm_core.specs.inside.Tables.{times_power}
use Rattle.gcm_core.proofs.Products.{length-block_bits}
use Rattle.aes_block.proofs.Public.{AreOctets-from_Fits}
use Rattle.gcm_core.specs.inside.Rows.{rows_in}
use Rattle.gcm_core.proofs.ByRows.{by_rows_in}
use Rattle.gcm_core.specs.inside.Powers.{four_powers, power}
use Rattle.gcm_core.proofs.FourBlocks.{length-power}
use Rattle.gcm_core.proofs.hash_key.HashKey.times_four.Goals as goal

pub returns : goal.returns
returns c =
    let s = c.self.inside in
    let h = block_bits s.key in
    let l = length-block_bits s.key in
    let is = c.self.invariant in
    let a = c.args in
    let p = by_rows_in 16 (power h 3) (rows_in s.four.first s.four.last) a.a (length-power h 3 l) (AreOctets-from_Fits a.a c.fits-a.1) is.fourth in
    let q = by_rows_in 16 (power h 2) (rows_in s.three.first s.three.last) a.b (length-power h 2 l) (AreOctets-from_Fits a.b c.fits-b.1) is.third in
    let r = by_rows_in 16 (power h 1) (rows_in s.two.first s.two.last) a.c (length-power h 1 l) (AreOctets-from_Fits a.c c.fits-c.1) is.second in
    let t = by_rows_in 16 h (rows_in s.one.first s.one.last) a.d l (AreOctets-from_Fits a.d c.fits-d.1) is.first in
    c.reduced.ensures
    ∙ (λ i. sum_of (c.number.ensures i) (times_power 128 (c.number-2.ensures i)))
    ∙ c.sum_of_four.ensures
    ∙ (λ i. sum_of (p i) (sum_of (q i) (sum_of (r i) (t i))))
    ∙ ap (λ (k : ℕ). four_powers (block_bits k) a.a a.b a.c a.d) c.self.view_is
