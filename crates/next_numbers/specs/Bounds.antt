-- How far next packet numbers go (this profile's own rules).
use Rattle.std.specs.Prelude.{◌≡◌, ◌≤◌, ℕ}
use Rattle.lan_core.specs.declared.event.Event.{Event}
use Rattle.lan_core.specs.declared.event.Event.TheVariants as events
use Rattle.lan_core.specs.declared.settings.Settings.{Settings}
use Rattle.lan_core.specs.Run.{Run}
use Rattle.lan_core.specs.Claims.{next}
use Rattle.next_numbers.specs.Numbers.{shown_next}

-- no next number is above this
abbrev pub AreBounded : Settings → Run → ℕ → Type 0
AreBounded settings r most = (s epoch : ℕ) → next settings s epoch r ≤ most

-- any event but a claim; a tick shows the next number
abbrev pub IsPlain : Settings → Run → Event → Type 0
IsPlain settings r (events.Tick s shown) = shown ≡ shown_next settings s r
IsPlain settings r (events.Claim s user pn) = ⊥
IsPlain settings r _ = Unit {0}
