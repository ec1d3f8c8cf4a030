use Rattle.std.proofs.Common.{arith, ◌≡◌, ◌<◌, ◌≤◌, true, ap, ◌∙◌, sym, subst}
use Rattle.atomic_table.specs.Seated.{TableId}
use Rattle.association_slots.specs.Views.{ControlAt, slot, top}
use Rattle.association_slots.specs.declared.view.ControlView.{ControlView}
use Rattle.association_slots.specs.Cards.{cards_given}
use Rattle.association_slots.specs.Words.{open_word}
use Rattle.association_slots.proofs.ControlKeeps.{raises_as}
use Rattle.association_slots.proofs.control.Control.raise.Goals as goal

pub swap-requires : goal.swap-requires
swap-requires c = let is = ap (λ (v : ControlAt). v.view) c.self.view_is in let here = ap (λ (v : ControlAt). v.table) c.self.view_is ∙ (c.requires.here ∙ sym c.shared.ensures) in
    let carded = subst (λ (d : ControlView). c.args.epoch ≤ cards_given d) (sym is) c.requires.card in (
      here,
      omega (arith, c.from.ensures, c.number.ensures, c.self.invariant.limit_is.2, ap (λ (t : TableId). t.words) here),
      raises_as _ _ _ c.args.an _ c.args.epoch _ (c.from.ensures ∙ c.number.ensures.value) (ap (λ m. m.0) c.self.invariant.is) (subst (λ (d : ControlView). (slot d c.args.an).shut ≡ true) (sym is) c.requires.shut)
          (subst (λ (d : ControlView). top d.raises < c.args.epoch) (sym is) c.requires.above) (omega (arith, carded)) (c.open_word-word.ensures ∙ ap (open_word c.args.epoch) c.self.invariant.first_is),
    )
