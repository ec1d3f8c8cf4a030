-- What the slot words of the stations show of a world, and what control was told.
use Rattle.std.specs.Prelude.{◌≡◌, ◌≤◌, ℕ, Bool, true, false, List, [], slice_get, slice_index}
use Rattle.std.specs.Prelude.{Option, Some, None}
use Rattle.lan_base.specs.AssociationNumbers.{number_of}
use Rattle.sak_exchange.specs.declared.held_key.Key.{Key}
use Rattle.association_slots.specs.Views.{ControlAt, present_at}
use Rattle.association_slots.specs.Words.{epoch_of, flag_of, next_of, shown_by}
use Rattle.lan_core.specs.declared.settings.Settings.{Settings}
use Rattle.lan_core.specs.Run.{Run}
use Rattle.lan_core.specs.Claims.{next}
use Rattle.lan_core.specs.Lives.{transmitting_at}
use Rattle.lan_schedule.specs.declared.stage.Stage.{Stage}
use Rattle.lan_schedule.specs.declared.commands.Replay.{Replay}
use Rattle.lan_schedule.specs.World.{World, settings}

-- what control knows of the words of each station
abbrev pub words_in : Option Stage → List ControlAt
words_in None = []
words_in (Some stage) = stage.words

abbrev pub words_of : Replay → List ControlAt
words_of replay = words_in replay.stage

-- this is what control knows of the words of the station at a place
abbrev pub HasWords : Replay → ℕ → ControlAt → Type 0
HasWords replay s control = slice_get (words_of replay) s ≡ Some control

-- a word shows the next packet number; where a race was begun, it may be ahead of it
abbrev pub IsShownNext : Bool → ℕ → ℕ → Type 0
IsShownNext false next shown = shown ≡ next
IsShownNext true next shown = next ≤ shown

-- The words of a station after a run show this key to transmit: the current word names its
-- association number and epoch, and that slot is open, with that epoch and the next packet number.
-- Without a key the current word shows nothing.
abbrev pub ShowKey : Bool → Settings → ℕ → Run → List ℕ → Option Key → Type 0
ShowKey raced settings s r words None = flag_of (slice_index words 4) ≡ false
ShowKey raced settings s r words (Some key) =
    let slot = slice_index words (number_of key.an) in
    (shown_by (slice_index words 4) ≡ present_at key.an key.epoch) × (flag_of slot ≡ false)
    × (epoch_of slot ≡ key.epoch)
    × IsShownNext raced (next settings s key.epoch r) (next_of slot)

-- they show the key that transmits there
abbrev pub ShowTheCore : World → ℕ → List ℕ → Type 0
ShowTheCore w s words =
    ShowKey w.kept.raced (settings w) s w.run words (transmitting_at (settings w) s w.run)
