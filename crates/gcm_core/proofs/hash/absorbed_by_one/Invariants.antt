use Rattle.std.proofs.Common.{◌≡◌, drop}
use Rattle.gcm_core.specs.Blocks.{block_bits}
use Rattle.gcm_core.specs.Ghash.{ghash}
use Rattle.gcm_core.proofs.hash.absorbed_by_one.Given as goal

-- to absorb the blocks that are left gives the hash of all whole blocks
abbrev pub invariant-loop-block : goal.invariant-loop-block
invariant-loop-block l =
    ghash (block_bits l.key) (block_bits l.value) (drop l.block-index l.blocks) ≡ ghash (block_bits l.key) (block_bits l.before) l.blocks
