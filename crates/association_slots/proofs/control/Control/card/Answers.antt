use Rattle.std.proofs.Common.{arith, ℕ, ap, ◌∙◌}
use Rattle.atomic_table.specs.Table.{Me}
use Rattle.association_slots.specs.Cards.{card_at}
use Rattle.association_slots.specs.Views.{control_of}
use Rattle.association_slots.specs.declared.view.View.{View}
use Rattle.association_slots.proofs.CardWords.{card_new}
use Rattle.association_slots.proofs.control.Control.card.Goals as goal

pub returns-clause-card : goal.returns-clause-card
returns-clause-card c = ap (λ (m : Me ℕ View). card_at (control_of m.0) c.from-2.result) c.write_card.ensures.1
    ∙ (card_new (control_of c.self.inside.place.me.0) c.words.result c.from-2.result (omega (arith, c.from-2.ensures, c.self.invariant.given_is.0)) ∙ c.words.ensures.back)

pub returns-clause-learned : goal.returns-clause-learned
returns-clause-learned c = c.write_card.ensures.2
