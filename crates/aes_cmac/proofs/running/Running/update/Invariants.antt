use Rattle.std.proofs.Common.{ℕ, ◌*◌, List, ◌++◌, take}
use Rattle.aes_cmac.specs.Progress.{Holds}
use Rattle.aes_cmac.proofs.running.Running.update.Given as goal

abbrev pub invariant-loop-block : goal.invariant-loop-block
invariant-loop-block l =
    (key message : List ℕ) → Holds l.fn.self key message → Holds l.self key (message ++ take (16 * l.block-index) l.piece)
