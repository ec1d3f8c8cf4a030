-- The limits that counts pass.
use Rattle.std.specs.Prelude.{ℕ, ◌≤◌, nat_lt, if◌then◌else◌, List, map, sum, length, Option, Some, None}
use Rattle.lan_base.specs.Ranges.{most_frames, most_ticks}
use Rattle.lan_core.specs.declared.stop.Which.{Which}
use Rattle.lan_core.specs.declared.stop.Which.TheVariants.{Frames, Octets, Ticks, Keys, Stations}
use Rattle.lan_core.specs.Order.{most_stations, most_octets, most_installs}

-- no more frames and octets than there may be on the air
pub record IsLight (frames : List (List ℕ)) : Type 0 where
  pub few : length frames ≤ most_frames
  pub light : sum (map length frames) ≤ most_octets

-- the first limit that is passed by so many frames and octets on the air, ticks, installs at a
-- station, and stations
abbrev pub passed_by : ℕ → ℕ → ℕ → ℕ → ℕ → Option Which
passed_by frames octets ticks installs stations =
    if nat_lt most_frames frames then Some Frames
    else if nat_lt most_octets octets then Some Octets
    else if nat_lt most_ticks ticks then Some Ticks
    else if nat_lt most_installs installs then Some Keys
    else if nat_lt most_stations stations then Some Stations
    else None

-- the first limit that is passed by these frames on the air, and so many ticks, installs at a station,
-- and stations
abbrev pub passed_with : List (List ℕ) → ℕ → ℕ → ℕ → Option Which
passed_with frames ticks installs stations =
    passed_by (length frames) (sum (map length frames)) ticks installs stations
