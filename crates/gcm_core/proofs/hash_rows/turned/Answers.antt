use Rattle.std.proofs.Common.{◌≡◌, ℕ, ◌<◌, ◌+◌, [], map, slice_index, sym, ap, subst, ◌∙◌, arith, inl, inr, length-set}
use Rattle.std.proofs.lemmas.Bool.{cases_eq}
use Rattle.std.proofs.lemmas.List.{get_or-set_same, get_or-set_other}
use Rattle.std.specs.Prelude.{set}
use Rattle.aes_block.specs.declared.look_ups.Row.{Row}
use Rattle.gcm_core.specs.Blocks.{block_octets}
use Rattle.gcm_core.specs.inside.Rows.{lanes_in}
use Rattle.gcm_core.proofs.hash_rows.turned.Goals as goal

pub loop-o-preserved : goal.loop-o-preserved
loop-o-preserved c =
    let o = c.loop-o.o in
    let rows = c.loop-o.rows in
    let was = c.loop-o.invariant in
    let row : Row = record { lanes = c.octets_at.result } in
    let none : Row = record { lanes = [] } in (
      length-set rows o row ∙ was.0,
      λ (k : ℕ) (h : k < o + 1). elim (cases_eq k o) [
        | inl e ↦ subst (λ n. lanes_in (set rows o row) n ≡ map (λ b. slice_index (block_octets b) n) c.args.blocks.now) (sym e)
            (ap (λ (r : Row). r.lanes) (get_or-set_same rows o row none (omega arith)) ∙ c.octets_at.ensures)
        | inr n ↦ ap (λ (r : Row). r.lanes) (get_or-set_other rows o k row none n)
            ∙ was.1 k (elim (cases_eq k o) [ inl e ↦ absurd (n e) | inr m ↦ omega arith ])
      ],
    )
