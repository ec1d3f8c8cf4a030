use Rattle.std.proofs.Common.{◌*◌, length, min}
use Rattle.gcm_core.specs.Gcm.{counter_block, gctr}
use Rattle.gcm_core.proofs.KeyStream.{IsEnciphered}
use Rattle.gcm_core.proofs.counter.encrypt.Given as goal

-- the blocks before i are encrypted, and the rest under the counter blocks from this count on gives the whole
abbrev pub invariant-loop-i : goal.invariant-loop-i
invariant-loop-i l =
    IsEnciphered l.key (counter_block l.iv l.count) l.octets (min (length l.octets) (16 * l.i))
    (gctr l.key (counter_block l.iv l.fn.first) l.initial.octets)
