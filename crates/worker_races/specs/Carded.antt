-- The cards that words hold are those of the keys that the stations installed.
use Rattle.std.specs.Prelude.{◌≡◌, ℕ, List, Some, slice_get}
use Rattle.sak_exchange.specs.declared.held_key.Key.{Key}
use Rattle.association_slots.specs.Cards.{card_at}
use Rattle.association_slots.specs.Views.{ControlAt}
use Rattle.lan_core.specs.declared.settings.Settings.{Settings}
use Rattle.lan_core.specs.Run.{Run}
use Rattle.group_safety.specs.Accounts.{Account}
use Rattle.group_safety.specs.Transmitting.{CarriesAt}
use Rattle.worker_races.specs.merge.Sealing.{HasInstalled}
use Rattle.station_words.specs.Telling.{KeepUp}

abbrev pub AreCarded : Settings → Run → List ControlAt → Type 0
AreCarded settings r cs = (s : ℕ) (c : ControlAt) → slice_get cs s ≡ Some c
    → (k : Key) → HasInstalled settings s k r
    → card_at c.view k.epoch ≡ record { sak = k.sak; conf = k.conf }

-- the words of each station keep up with an account of what it carries after a run, whatever numbers
-- were shown or claimed since
abbrev pub KeepCarried : Settings → Run → List ControlAt → Type 0
KeepCarried settings r cs = (s : ℕ) (c : ControlAt) → slice_get cs s ≡ Some c
    → (a : Account) × CarriesAt settings s r a.carried × KeepUp a c.view
