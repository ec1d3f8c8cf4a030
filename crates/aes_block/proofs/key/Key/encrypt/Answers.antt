use Rattle.std.proofs.Common.{◌≡◌, ◌⊎◌, List, ℕ, length, sym, ap, subst, ◌∙◌, arith, inl, inr}
use Rattle.aes_block.specs.Aes.{aes, IsKey}
use Rattle.aes_block.specs.Expansion.{expanded_key}
use Rattle.aes_block.specs.inside.RoundKeys.{AreRoundKeys}
use Rattle.aes_block.proofs.RoundKeys.{round_keys}
use Rattle.aes_block.proofs.key.Key.encrypt.Goals as goal

pub returns-then-self-eq10-clause-key : goal.returns-then-self-eq10-clause-key
returns-then-self-eq10-clause-key c = subst IsKey c.self.view_is c.self.invariant.is_key

pub returns-else-self-eq10-clause-key : goal.returns-else-self-eq10-clause-key
returns-else-self-eq10-clause-key c = subst IsKey c.self.view_is c.self.invariant.is_key

pub returns-then-self-eq10-clause-length : goal.returns-then-self-eq10-clause-length
returns-then-self-eq10-clause-length c =
    subst (λ (k : List ℕ). (length k ≡ 16) ⊎ (length k ≡ 32)) c.self.view_is c.self.invariant.two

pub returns-else-self-eq10-clause-length : goal.returns-else-self-eq10-clause-length
returns-else-self-eq10-clause-length c =
    subst (λ (k : List ℕ). (length k ≡ 16) ⊎ (length k ≡ 32)) c.self.view_is c.self.invariant.two

pub returns-then-self-eq10-clause-ciphertext : goal.returns-then-self-eq10-clause-ciphertext
returns-then-self-eq10-clause-ciphertext c =
    let s = c.self.inside in
    let k = c.self.invariant in
    let e : s.rounds ≡ 10 = omega (arith, c.if-self-eq10.true) in
    let rows = subst (λ (n : ℕ). AreRoundKeys (expanded_key s.expanded) n s.rows) e (round_keys s.expanded s.rounds s.rows k) in
    c.encrypt_in.ensures s.expanded (sym e ∙ k.count) rows ∙ ap (λ (key : List ℕ). aes key c.args.block) c.self.view_is

pub returns-else-self-eq10-clause-ciphertext : goal.returns-else-self-eq10-clause-ciphertext
returns-else-self-eq10-clause-ciphertext c =
    let s = c.self.inside in
    let k = c.self.invariant in
    let e : s.rounds ≡ 14 = elim k.two [
      | inl a ↦ absurd (omega (arith, k.count, a, c.if-self-eq10.false))
      | inr a ↦ omega (arith, k.count, a)
    ] in
    let rows = subst (λ (n : ℕ). AreRoundKeys (expanded_key s.expanded) n s.rows) e (round_keys s.expanded s.rounds s.rows k) in
    c.encrypt_by_halves.ensures s.expanded (sym e ∙ k.count) rows ∙ ap (λ (key : List ℕ). aes key c.args.block) c.self.view_is
