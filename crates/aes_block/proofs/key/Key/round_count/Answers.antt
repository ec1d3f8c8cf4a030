use Rattle.std.proofs.Common.{◌≡◌, ◌⊎◌, List, ℕ, length, ap, subst, ◌∙◌}
use Rattle.aes_block.specs.Aes.{IsKey}
use Rattle.aes_block.specs.Expansion.{round_count}
use Rattle.aes_block.proofs.key.Key.round_count.Goals as goal

pub returns-clause-key : goal.returns-clause-key
returns-clause-key c = subst IsKey c.self.view_is c.self.invariant.is_key

pub returns-clause-length : goal.returns-clause-length
returns-clause-length c =
    subst (λ (k : List ℕ). (length k ≡ 16) ⊎ (length k ≡ 32)) c.self.view_is c.self.invariant.two

pub returns-clause-count : goal.returns-clause-count
returns-clause-count c = c.self.invariant.count ∙ ap round_count c.self.view_is
