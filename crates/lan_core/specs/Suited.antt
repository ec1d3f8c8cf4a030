-- What an event draws by its kind, and runs of events that draw what events of a group draw.
use Rattle.std.specs.Prelude.{◌≡◌, List, [], ◌∷◌, map, Option, Some, None}
use Rattle.lan_base.specs.declared.address.Mi.{Mi}
use Rattle.aes_block.specs.declared.secret.Secret.{Secret}
use Rattle.lan_core.specs.declared.event.Event.{Event}
use Rattle.lan_core.specs.declared.event.Event.TheVariants as events
use Rattle.lan_core.specs.declared.settings.Settings.{Settings}
use Rattle.lan_core.specs.declared.fact.Fact.{Fact}
use Rattle.lan_core.specs.Run.{Run, Happening}
use Rattle.lan_core.specs.Ledgers.{Birth, born, gather, with_one}
use Rattle.lan_core.specs.Lives.{drawn_mi}
use Rattle.lan_core.specs.Expected.{Drawn}
use Rattle.lan_core.specs.Types.{IfDrawn}
use Rattle.lan_core.specs.Order.{IsOfSuite}
use Rattle.lan_core.specs.Stops.{sak_of_tick}

-- a start and a restart draw a member identifier
abbrev pub mi_by : Event → Drawn → Option Mi
mi_by (events.Start name sci priority) drawn = drawn.mi
mi_by (events.Restart s) drawn = drawn.mi
mi_by _ drawn = None

-- a tick may draw a key
abbrev pub sak_by : Event → Drawn → Option Secret
sak_by (events.Tick s next) drawn = Some drawn.sak
sak_by _ drawn = None

-- facts begin one life at most: they put its member identifier in front of those of before
abbrev pub BeginOne : List Fact → Type 0
BeginOne shown = (before : List Birth)
    → map (λ b. b.mi) (gather born shown before)
    ≡ with_one (drawn_mi shown) (map (λ b. b.mi) before)

-- an event begins one life at most, and a key that it drew is of the suite
pub record IsDrawnWell (settings : Settings) (x : Happening) : Type 0 where
  pub one : BeginOne x.facts
  pub suits : IfDrawn (IsOfSuite settings) (sak_of_tick x.facts x.event)

-- so does each
abbrev pub AreDrawnWell : Settings → Run → Type 0
AreDrawnWell settings [] = Unit {0}
AreDrawnWell settings (x ∷ r) = IsDrawnWell settings x × AreDrawnWell settings r
