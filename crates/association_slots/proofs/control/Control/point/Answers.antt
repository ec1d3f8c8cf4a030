use Rattle.std.proofs.Common.{arith, ◌<◌, ap, ◌∙◌, sym, subst}
use Rattle.atomic_table.specs.Seated.{TableId}
use Rattle.association_slots.specs.Views.{ControlAt, current, IsOpen}
use Rattle.association_slots.specs.declared.view.ControlView.{ControlView}
use Rattle.association_slots.proofs.ControlKeeps.{points}
use Rattle.association_slots.proofs.control.Control.point.Goals as goal

pub present_word-word-requires : goal.present_word-word-requires
present_word-word-requires c = let is = ap (λ (v : ControlAt). v.view) c.self.view_is in let k = c.self.invariant in let low = k.slots_low c.args.an in
    omega (arith, low, k.given_is.1, k.limit_is.1, subst (λ (d : ControlView). IsOpen d c.args.an c.args.epoch) (sym is) c.requires.open)

pub store-requires : goal.store-requires
store-requires c = let is = ap (λ (v : ControlAt). v.view) c.self.view_is in let here = ap (λ (v : ControlAt). v.table) c.self.view_is ∙ (c.requires.here ∙ sym c.shared.ensures) in (
  here,
  omega (arith, c.self.invariant.limit_is.2, ap (λ (t : TableId). t.words) here),
  points _ _ _ c.args.an c.args.epoch _ (ap (λ m. m.0) c.self.invariant.is) (subst (λ (d : ControlView). IsOpen d c.args.an c.args.epoch) (sym is) c.requires.open) (subst (λ (d : ControlView). (current d).epoch < c.args.epoch) (sym is) c.requires.above) c.present_word-word.ensures,
)
