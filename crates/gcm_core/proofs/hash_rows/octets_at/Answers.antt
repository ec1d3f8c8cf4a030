use Rattle.std.proofs.Common.{◌≡◌, ℕ, ◌<◌, ◌+◌, length, get_or, slice_index, sym, ap, subst, ◌∙◌, arith, inl, inr, rules, length-set}
use Rattle.std.specs.Int.{w128, to_be_bytes}
use Rattle.std.specs.Prelude.{set}
use Rattle.std.proofs.lemmas.Bool.{cases_eq}
use Rattle.std.proofs.lemmas.List.{ext_get_or, get_or-map, get_or-set_same, get_or-set_other, length-map}
use Rattle.gcm_core.specs.Blocks.{block_octets}
use Rattle.gcm_core.proofs.hash_rows.octets_at.Goals as goal

pub loop-n-preserved : goal.loop-n-preserved
loop-n-preserved c =
    let n = c.loop-n.n in
    let octets = c.loop-n.octets in
    let was = c.loop-n.invariant in
    let octet = get_or c.to_be_bytes.result c.args.o 0 in
    let at = λ (k : ℕ). get_or (to_be_bytes w128 (get_or c.args.blocks.now k 0)) c.args.o 0 in (
      length-set octets n octet ∙ was.0,
      λ (k : ℕ) (h : k < n + 1). elim (cases_eq k n) [
        | inl e ↦ subst (λ m. get_or (set octets n octet) m 0 ≡ at m) (sym e)
            (get_or-set_same octets n octet 0 (omega arith) ∙ ap (λ os. get_or os c.args.o 0) c.to_be_bytes.ensures)
        | inr other ↦ get_or-set_other octets n k octet 0 other
            ∙ was.1 k (elim (cases_eq k n) [ inl e ↦ absurd (other e) | inr m ↦ omega arith ])
      ],
    )

pub returns : goal.returns
unfolding block_octets
returns c =
    let blocks = c.args.blocks.now in
    let f : ℕ → ℕ = λ b. slice_index (block_octets b) c.args.o in
    let inv = c.loop-n.invariant in
    let long : length blocks ≡ 16 = search rules in
    ext_get_or 0 c.loop-n.octets _ (inv.0 ∙ sym (length-map blocks f ∙ long))
    (λ k h. inv.1 k (omega (arith, inv.0, h)) ∙ sym (get_or-map f blocks k 0 0 (omega (arith, inv.0, long, h))))
