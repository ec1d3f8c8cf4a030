use Rattle.std.proofs.Common.{ℕ, ◌*◌, ap}
use Rattle.std.proofs.lemmas.Nat.{and_mask}
use Rattle.gcm_core.proofs.Products.{reduction_number, times_x-number}
use Rattle.gcm_core.proofs.hash_rows.times_x.Goals as goal

pub returns : goal.returns
returns c = times_x-number _ _ c.ranges.block.fits (ap (λ (n : ℕ). n * reduction_number) (and_mask c.args.block 1))
