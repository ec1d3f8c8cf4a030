use Rattle.std.proofs.Common.{ℕ, List, [], get_or, ap, ◌∙◌}
use Rattle.atomic_table.specs.Table.{Me}
use Rattle.association_slots.specs.Steps.{wrote}
use Rattle.association_slots.specs.Views.{control_of}
use Rattle.association_slots.specs.declared.view.ControlView.{ControlView}
use Rattle.association_slots.specs.declared.view.View.{View}
use Rattle.association_slots.specs.declared.view.View.TheVariants.{Control}
use Rattle.association_slots.proofs.CardWords.{stored_five}
use Rattle.association_slots.proofs.control.write_card.Goals as goal

pub returns : goal.returns
returns c =
    let w = c.args.words.now in let old = control_of c.args.place.now.me.0 in
    let at : (i : ℕ) → ControlView → ControlView = λ i v. wrote v (get_or w i 0) in
    let one = ap (λ (m : Me ℕ View). control_of m.0) c.write.ensures.1 in
    let two = ap (λ (m : Me ℕ View). control_of m.0) c.write-2.ensures.1 ∙ ap (at 1) one in
    let three = ap (λ (m : Me ℕ View). control_of m.0) c.write-3.ensures.1 ∙ ap (at 2) two in
    let four = ap (λ (m : Me ℕ View). control_of m.0) c.write-4.ensures.1 ∙ ap (at 3) three in (
      c.write-5.ensures.0 ∙ (c.write-4.ensures.0 ∙ (c.write-3.ensures.0 ∙ (c.write-2.ensures.0 ∙ c.write.ensures.0))),
      c.write-5.ensures.1 ∙ (ap (λ (v : ControlView). let m : Me ℕ View = (Control (at 4 v), []) in m) four
          ∙ ap (λ (ws : List ℕ). let m : Me ℕ View = (Control (record old { card_words = ws }), []) in m) (stored_five old.card_words w c.told-words)),
      c.write-5.ensures.2,
    )
