use Rattle.std.proofs.Common.{◌≡◌}
use Rattle.aes_cmac.specs.Cmac.{chain_after}
use Rattle.aes_cmac.proofs.whole.cmac.Given as goal

abbrev pub invariant-loop-block : goal.invariant-loop-block
invariant-loop-block l = l.chain ≡ chain_after l.key l.message l.block-index
