use Rattle.std.proofs.Common.{◌≡◌, ◌<◌, ℕ, length, get_or}
use Rattle.std.specs.Int.{w128, to_be_bytes}
use Rattle.gcm_core.proofs.hash_rows.octets_at.Given as goal

abbrev pub invariant-loop-n : goal.invariant-loop-n
invariant-loop-n l =
    (length l.octets ≡ 16)
    × ((k : ℕ) → k < l.n → get_or l.octets k 0 ≡ get_or (to_be_bytes w128 (get_or l.blocks k 0)) l.o 0)
