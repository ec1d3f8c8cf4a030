-- Hitless rollover: what IEEE Std 802.1X, clause 9, wants of a new key, over a whole run of the
-- group (steady, in time and found are this profile's own words).
use Rattle.std.specs.Prelude.{◌≡◌, ◌++◌}
use Rattle.lan_core.specs.declared.settings.Settings.{Settings}
use Rattle.lan_core.specs.Run.{Run}
use Rattle.group_safety.specs.Steady.{Rollover, IsSteady}
use Rattle.group_safety.specs.Time.{Flight, IsFlight, IsInTime, IsFound}

-- In every steady rollover of the run up to some moment, each frame that is delivered in time is
-- found.
abbrev pub Hitless : Settings → Run → Type 0
Hitless settings run = (later front : Run) (rollover : Rollover) (flight : Flight)
    → run ≡ later ++ front → IsSteady settings front rollover → IsFlight settings front flight
    → IsInTime settings front rollover flight → IsFound settings front flight
