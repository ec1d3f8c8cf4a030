-- The next packet number of each station under each epoch: what is shown and claimed where no number
-- is left out, and tables that tell it (this profile's own rules).
use Rattle.std.specs.Prelude.{◌≡◌, Bool, true, false, ℕ, if◌then◌else◌, nat_lt, List, [], get_or}
use Rattle.lan_core.specs.declared.event.Event.{Event}
use Rattle.lan_core.specs.declared.event.Event.TheVariants as events
use Rattle.lan_core.specs.declared.settings.Settings.{Settings}
use Rattle.lan_core.specs.Run.{Run}
use Rattle.lan_core.specs.Claims.{next}
use Rattle.lan_core.specs.Lives.{transmitting_at}
use Rattle.lan_core.specs.Unstopped.{next_under}
use Rattle.lan_core.specs.Expected.{last_number}

-- what a tick of a station shows: the next number under the key that transmits
abbrev pub shown_next : Settings → ℕ → Run → ℕ
shown_next settings s r = next_under settings s r (transmitting_at settings s r)

-- a packet number, and 0 for what lies behind the last one
abbrev pub in_range : ℕ → ℕ
in_range n = if nat_lt last_number n then 0 else n

-- what a station claims: that number, or 0 where it can claim none
abbrev pub claimed_number : Settings → ℕ → Run → ℕ
claimed_number settings s r = in_range (shown_next settings s r)

abbrev pub is_tick : Event → Bool
is_tick (events.Tick s shown) = true
is_tick _ = false

-- a tick shows the next number
abbrev pub ShowsNext : Settings → Run → Event → Type 0
ShowsNext settings r (events.Tick s shown) = shown ≡ shown_next settings s r
ShowsNext settings r _ = Unit {0}

-- ---- tables of next numbers

-- the next number of a station under an epoch: what its table has there, else 1
abbrev pub counted_next : List (List ℕ) → ℕ → ℕ → ℕ
counted_next tables s epoch = get_or (get_or tables s []) epoch 1

-- the tables tell the next number of each station under each epoch
abbrev pub TellNext : Settings → Run → List (List ℕ) → Type 0
TellNext settings r tables = (s epoch : ℕ) → counted_next tables s epoch ≡ next settings s epoch r
