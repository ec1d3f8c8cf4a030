-- Which event may come after a run: what it names is there, its packet number is in order, and the
-- run stays within the limits of the profile.
use Rattle.std.specs.Prelude.{◌≡◌, ◌≢◌, ◌<◌, ◌≤◌, ◌⊎◌, ℕ, ◌+◌, ◌*◌, ◌==◌, Bool, true, false, if◌then◌else◌}
use Rattle.std.specs.Prelude.{List, [], ◌∷◌, map, sum, length, All, Option, Some, None, is_some}
use Rattle.lan_base.specs.declared.address.Sci.{Sci}
use Rattle.lan_base.specs.declared.frame.UserFrame.{UserFrame}
use Rattle.lan_base.specs.declared.name.Name.{Name}
use Rattle.lan_base.specs.Ranges.{most_frame_octets, most_frames, most_ticks}
use Rattle.lan_base.specs.Suites.{key_bits}
use Rattle.aes_block.specs.declared.secret.Secret.{Secret}
use Rattle.aes_block.specs.Secrets.{secret_octets}
use Rattle.sak_exchange.specs.declared.held_key.Key.{Key}
use Rattle.lan_core.specs.declared.event.Event.{Event}
use Rattle.lan_core.specs.declared.event.Event.TheVariants as events
use Rattle.lan_core.specs.declared.settings.Settings.{Settings}
use Rattle.lan_core.specs.Run.{Run, Happening, stations}
use Rattle.lan_core.specs.Ledgers.{air, frame_at, installs_at}
use Rattle.lan_core.specs.Lives.{drawn_mi, drawn_sak, transmitting_at}
use Rattle.lan_core.specs.Claims.{next, waiting, user_at}
use Rattle.lan_core.specs.Expected.{last_number}
use Rattle.lan_core.specs.Types.{IsTyped, IsMi, IsSecret, IsUserFrame, IfDrawn}

-- ---- limits

abbrev pub most_stations : ℕ
most_stations = 16

-- octets on the air
abbrev pub most_octets : ℕ
most_octets = 67108864

-- at one station, over all its lives
abbrev pub most_installs : ℕ
most_installs = 4096

abbrev pub ticks_of : Event → ℕ
ticks_of (events.Tick s next) = 1
ticks_of _ = 0

-- how many ticks there were, at all stations
abbrev pub ticks : Run → ℕ
ticks [] = 0
ticks (x ∷ r) = ticks_of x.event + ticks r

-- a run is within the limits
pub record IsWithin (r : Run) : Type 0 where
  pub frames : length (air r) ≤ most_frames
  pub octets : sum (map (λ frame. length frame.octets) (air r)) ≤ most_octets
  pub ticks : ticks r ≤ most_ticks
  pub installs : (s : ℕ) → length (installs_at s r) ≤ most_installs
  pub stations : length (stations r) ≤ most_stations

-- ---- packet numbers

-- whether an event is one of the station, and no claim; an emission is nobody's event
abbrev pub is_event_of : ℕ → Event → Bool
is_event_of s (events.Tick station next) = station == s
is_event_of s (events.Deliver frame station) = station == s
is_event_of s (events.Restart station) = station == s
is_event_of s (events.Inject station octets) = station == s
is_event_of s _ = false

-- the run up to the station's last event that is no claim
abbrev pub settled : ℕ → Run → Run
settled s [] = []
settled s (x ∷ r) = if is_event_of s x.event then x ∷ r else settled s r

-- The number that a tick shows under the key that transmits before it is not below the next one.
-- Where the tick ends that key's transmission, claims of the key that come during the tick stand
-- before it: then the number is not below the next one after the station's last event that is no
-- claim.
abbrev pub IsShown : Settings → ℕ → ℕ → Happening → Run → Option Key → Type 0
IsShown settings s shown x r None = shown ≡ 0
IsShown settings s shown x r (Some k) =
    (1 ≤ shown) × ((next settings s k.epoch r ≤ shown)
    ⊎ ((transmitting_at settings s (x ∷ r) ≢ Some k)
    × (next settings s k.epoch (settled s r) ≤ shown)))

-- a claimed number is not below the next one, and is a packet number
abbrev pub IsClaimable : Settings → ℕ → Run → ℕ → Option Key → Type 0
IsClaimable settings s r pn None = ⊥
IsClaimable settings s r pn (Some k) = (next settings s k.epoch r ≤ pn) × (pn ≤ last_number)

-- a claim comes with a user frame
abbrev pub IsSendable : Option UserFrame → Type 0
IsSendable None = ⊥
IsSendable (Some frame) = IsUserFrame frame

-- ---- draws

-- a drawn key has as many bits as those of the suite
pub record IsOfSuite (settings : Settings) (sak : Secret) : Type 0 where
  pub secret : IsSecret sak
  pub bits : 8 * length (secret_octets sak) ≡ key_bits settings.suite

-- ---- events

abbrev pub Exists : ℕ → Run → Type 0
Exists s r = s < length (stations r)

-- no station has this name or this SCI
abbrev pub IsNew : Name → Sci → Run → Type 0
IsNew name sci r = All (λ p. (p.name ≢ name) × (p.sci ≢ sci)) (stations r)

-- an event may come after a run, given the happening that it is part of
abbrev pub IsAllowed : Settings → List UserFrame → Run → Happening → Event → Type 0
IsAllowed settings users r x (events.Start name sci priority) =
    IsNew name sci r × IfDrawn IsMi (drawn_mi x.facts)
IsAllowed settings users r x (events.Tick s shown) =
    Exists s r × IsShown settings s shown x r (transmitting_at settings s r)
    × IfDrawn (IsOfSuite settings) (drawn_sak x.facts)
IsAllowed settings users r x (events.Deliver frame s) =
    Exists s r × (is_some (frame_at r frame) ≡ true)
IsAllowed settings users r x (events.Restart s) = Exists s r × IfDrawn IsMi (drawn_mi x.facts)
IsAllowed settings users r x (events.Claim s user pn) =
    Exists s r × IsSendable (user_at users user)
    × ((pn ≡ 0) ⊎ IsClaimable settings s r pn (transmitting_at settings s r))
IsAllowed settings users r x events.Emit = is_some (waiting settings r) ≡ true
IsAllowed settings users r x (events.Inject s octets) =
    Exists s r × (length octets ≤ most_frame_octets)

-- an event with its facts is in order after a run
abbrev pub IsInOrder : Settings → List UserFrame → Run → Happening → Type 0
IsInOrder settings users r x = IsTyped x.event × IsAllowed settings users r x x.event
