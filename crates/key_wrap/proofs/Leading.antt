-- steps undone one after another
use Rattle.std.proofs.Common.{◌≡◌, ℕ, ◌+◌, ◌≤◌, List, length, ap, sym, subst, ◌∙◌}
use Rattle.aes_block.specs.Aes.{aes, IsBlock, IsOctets}
use Rattle.key_wrap.specs.Wrap.{step, steps}
use Rattle.key_wrap.proofs.Octets.{IsOctets-steps}
use Rattle.key_wrap.proofs.Steps.{steps-more}

-- what is there now is what i steps lead to, on the way to the given octets
pub record LeadsOn (kek given now : List ℕ) (count i : ℕ) : Type 0 where
  pub undone : (start : List ℕ) → steps kek start i ≡ now → steps kek start count ≡ given
  pub only : (start : List ℕ) → IsOctets (length given) start → steps kek start count ≡ given → now ≡ steps kek start i

pub LeadsOn-before : (kek given now before : List ℕ) (count i : ℕ) → LeadsOn kek given now count (i + 1)
    → 16 ≤ length given → length now ≡ length given → ((text : List ℕ) → IsBlock text → IsBlock (aes kek text))
    → step kek before (i + 1) ≡ now
    → ((b : List ℕ) → IsOctets (length now) b → step kek b (i + 1) ≡ now → before ≡ b)
    → LeadsOn kek given before count i
LeadsOn-before kek given now before count i h room same blocks undone only = record {
  undone = λ start e. h.undone start (steps-more kek start i ∙ ap (λ s. step kek s (i + 1)) e ∙ undone);
  only = λ start o e.
      let octets : IsOctets (length now) (steps kek start i) =
      let P : ℕ → Type 0 = λ n. IsOctets n (steps kek start i) in
      subst P (sym same) (IsOctets-steps kek start (length given) i room blocks o) in
      only (steps kek start i) octets (sym (h.only start o e ∙ steps-more kek start i));
}
