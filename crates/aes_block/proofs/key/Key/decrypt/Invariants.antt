use Rattle.std.proofs.Common.{◌≡◌, ◌-◌, ℕ, List}
use Rattle.aes_block.specs.Expansion.{expanded_key}
use Rattle.aes_block.specs.Aes.{aes, after_rounds}
use Rattle.aes_block.proofs.key.Key.decrypt.Given as goal

abbrev pub invariant-loop-i : goal.invariant-loop-i
invariant-loop-i l =
    (text : List ℕ) → after_rounds (expanded_key l.self) text (l.i - 1) ≡ l.state → aes l.self text ≡ l.fn.block
