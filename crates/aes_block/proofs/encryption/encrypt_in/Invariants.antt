use Rattle.std.proofs.Common.{◌≡◌, List, ℕ, ◌-◌}
use Rattle.aes_block.specs.Expansion.{expanded_key, round_count}
use Rattle.aes_block.specs.inside.RoundKeys.{AreRoundKeys}
use Rattle.aes_block.proofs.OtherBasis.{Holds}
use Rattle.aes_block.proofs.encryption.encrypt_in.Given as goal

abbrev pub invariant-loop-i : goal.invariant-loop-i
invariant-loop-i g l =
    (key : List ℕ) → g.row.ROUNDS ≡ round_count key → AreRoundKeys (expanded_key key) g.row.ROUNDS l.fn.rows
    → Holds (expanded_key key) l.fn.block (l.i - 1) l.state
