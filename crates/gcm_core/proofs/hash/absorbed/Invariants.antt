use Rattle.std.proofs.Common.{◌≡◌, ◌*◌, drop}
use Rattle.gcm_core.specs.Blocks.{block_bits, blocks_of, padded}
use Rattle.gcm_core.specs.Ghash.{ghash}
use Rattle.gcm_core.proofs.hash.absorbed.Given as goal

-- to absorb what is behind the groups gives the hash of all
abbrev pub invariant-loop-four : goal.invariant-loop-four
invariant-loop-four l =
    ghash (block_bits l.key) (block_bits l.value) (blocks_of (padded (drop (64 * l.four-index) l.octets)))
    ≡ ghash (block_bits l.key) (block_bits l.before) (blocks_of (padded l.octets))
