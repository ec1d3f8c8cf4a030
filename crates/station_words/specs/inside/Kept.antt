-- What the fields keep of control's view.
use Rattle.std.specs.Prelude.{◌≡◌, ℕ, ◌*◌, true, not, length}
use Rattle.lan_base.specs.declared.association_number.AssociationNumber.{AssociationNumber}
use Rattle.association_slots.specs.Views.{slot, current, top}
use Rattle.association_slots.specs.declared.view.Current.{Current}
use Rattle.association_slots.specs.declared.view.ControlView.{ControlView}
use Rattle.lan_core.specs.Order.{most_installs}
use Rattle.group_safety.specs.Transmitting.{names}
use Rattle.station_words.specs.Telling.{sending_of}

-- A slot is open exactly where the current word names it, and then has its epoch,
-- which is the one that was raised last.
pub record IsKept (c : ControlView) (now : Current) (cards : ℕ) : Type 0 where
  pub first : c.first ≡ 1
  pub limit : c.limit ≡ most_installs
  pub four : length c.slots ≡ 4
  pub shown : current c ≡ now
  pub given : length c.card_words ≡ 5 * cards
  pub top_is : top c.raises ≡ now.epoch
  pub slots : (an : AssociationNumber) → (slot c an).shut ≡ not (names (sending_of now) an)
  pub epoch : now.present ≡ true → (slot c now.an).epoch ≡ now.epoch
