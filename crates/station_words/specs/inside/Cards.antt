-- The card that a fact needs.
use Rattle.std.specs.Prelude.{◌≡◌, ◌+◌, ◌≤◌, ◌<◌, ℕ, true, Option, Some, None, is_some, option_map}
use Rattle.association_slots.specs.Cards.{card_at}
use Rattle.association_slots.specs.declared.view.ControlView.{ControlView}
use Rattle.association_slots.specs.declared.card.Card.{Card}
use Rattle.sak_exchange.specs.declared.held_key.HeldKey.{HeldKey}
use Rattle.lan_core.specs.declared.fact.Fact.{Fact}
use Rattle.lan_core.specs.declared.fact.Fact.TheVariants as facts
use Rattle.lan_core.specs.declared.settings.Settings.{Settings}
use Rattle.lan_core.specs.Run.{Run}
use Rattle.lan_core.specs.Keys.{held_at}

-- an install comes with a card
abbrev pub HasCard : Fact → Option Card → Type 0
HasCard (facts.Installed station id an epoch sak) card = is_some card ≡ true
HasCard _ card = Unit {0}

-- the card of a key that is held
abbrev pub card_of_key : HeldKey → Card
card_of_key held = record { sak = held.key.sak; conf = held.key.conf }

-- that of the key which is held after a run under the association number of an install
abbrev pub card_held : Settings → Run → Fact → Option Card
card_held settings r (facts.Installed station id an epoch sak) =
    option_map card_of_key (held_at settings station r an)
card_held settings r _ = None

-- the card of an install is the one that it came with
abbrev pub IsCarded : Fact → Option Card → Card → Type 0
IsCarded (facts.Installed station id an epoch sak) card at = card ≡ Some at
IsCarded _ card at = Unit {0}

-- the cards before a fact, before which so many keys were installed, stay, and that of an install comes
pub record GivesCard (fact : Fact) (card : Option Card) (count : ℕ) (old new : ControlView)
    : Type 0 where
  pub earlier : (epoch : ℕ) → 0 < epoch → epoch ≤ count → card_at new epoch ≡ card_at old epoch
  pub given : IsCarded fact card (card_at new (count + 1))
