use Rattle.std.proofs.Common.{◌≡◌, ◌<◌, ℕ, length, map, slice_index}
use Rattle.gcm_core.specs.Blocks.{block_octets}
use Rattle.gcm_core.specs.inside.Rows.{lanes_in}
use Rattle.gcm_core.proofs.hash_rows.turned.Given as goal

abbrev pub invariant-loop-o : goal.invariant-loop-o
invariant-loop-o l =
    (length l.rows ≡ 16)
    × ((k : ℕ) → k < l.o → lanes_in l.rows k ≡ map (λ b. slice_index (block_octets b) k) l.blocks)
