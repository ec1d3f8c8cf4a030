-- What the words of a station say, by its place: the last epoch pointed at, the association number
-- under which an epoch was, and the card of an epoch.
use Rattle.std.specs.Prelude.{ℕ, ◌==◌, ◌&&◌, if◌then◌else◌, List, [], ◌∷◌, slice_get}
use Rattle.std.specs.Prelude.{Option, Some, None}
use Rattle.lan_base.specs.declared.association_number.AssociationNumber.{AssociationNumber}
use Rattle.lan_base.specs.declared.association_number.AssociationNumber.TheVariants.{An0}
use Rattle.association_slots.specs.Cards.{card_at}
use Rattle.association_slots.specs.Steps.{at_first}
use Rattle.association_slots.specs.Views.{ControlAt, current}
use Rattle.association_slots.specs.declared.card.Card.{Card}
use Rattle.association_slots.specs.declared.view.ControlView.{ControlView}
use Rattle.association_slots.specs.declared.view.Current.{Current}

-- what the hand of a station knows; where no station is, nothing happened
abbrev pub view_in : Option ControlAt → ControlView
view_in None = at_first 1 0
view_in (Some c) = c.view

abbrev pub view_at : List ControlAt → ℕ → ControlView
view_at cs s = view_in (slice_get cs s)

-- the last epoch pointed at, 0 for none
abbrev pub last_pointed : List ControlAt → ℕ → ℕ
last_pointed cs s = (current (view_at cs s)).epoch

-- the association number under which an epoch was pointed at
abbrev pub an_under : ℕ → List Current → AssociationNumber
an_under epoch [] = An0
an_under epoch (p ∷ ps) = if p.present && (p.epoch == epoch) then p.an else an_under epoch ps

abbrev pub an_pointed : List ControlAt → ℕ → ℕ → AssociationNumber
an_pointed cs s epoch = an_under epoch (view_at cs s).points

-- the card of an epoch
abbrev pub card_given : List ControlAt → ℕ → ℕ → Card
card_given cs s epoch = card_at (view_at cs s) epoch
