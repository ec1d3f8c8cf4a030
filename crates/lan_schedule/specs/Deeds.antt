-- What a line asks of a group at work, by the places of the stations that it names (this profile's own
-- rule).
use Rattle.std.specs.Prelude.{ℕ, ◌≤◌, Bool, true, false, List, [], ◌∷◌, length, Option, Some, None}
use Rattle.std.specs.Option.{option_or}
use Rattle.lan_base.specs.declared.address.Sci.{Sci}
use Rattle.lan_base.specs.Name.{IsName}
use Rattle.lan_base.specs.Ranges.{most_frames}
use Rattle.gcm_frames.specs.Protected.{IsSci}
use Rattle.lan_core.specs.Types.{AreOctets, IsUserFrame}
use Rattle.trace_text.specs.declared.line.Line.{Line}
use Rattle.trace_text.specs.declared.line.Line.TheVariants as lines
use Rattle.trace_acts.specs.Names.{names_of}
use Rattle.lan_schedule.specs.declared.deed.Deed.{Deed}
use Rattle.lan_schedule.specs.declared.deed.Deed.TheVariants as deeds
use Rattle.lan_schedule.specs.declared.deed.Named.{Named}
use Rattle.lan_schedule.specs.declared.deed.Named.TheVariants as named
use Rattle.lan_schedule.specs.Races.{Burst, Numbered}
use Rattle.lan_schedule.specs.World.{World, place_in}

-- ---- a deed

-- what a line asks of the whole group, or of a link in it
abbrev pub group_deed : Line → List (List ℕ) → Option Deed
group_deed (lines.Station name sci priority) names = Some (deeds.Start name sci priority)
group_deed (lines.Tick rounds) names = Some (deeds.Tick rounds)
group_deed (lines.Flow rounds) names = Some (deeds.Flow rounds)
group_deed (lines.Spread frame) names = Some (deeds.Spread frame)
group_deed (lines.Lose frame) names = Some (deeds.Lose frame)
group_deed (lines.Cut from to) names = Some (deeds.Cut (place_in from names) (place_in to names))
group_deed (lines.Mend from to) names = Some (deeds.Mend (place_in from names) (place_in to names))
group_deed _ names = None

-- what a line asks of one station
abbrev pub station_deed : Line → List (List ℕ) → Option Deed
station_deed (lines.TickOne name ticks) names = Some (deeds.TickOne (place_in name names) ticks)
station_deed (lines.Deliver frame name) names = Some (deeds.Deliver frame (place_in name names))
station_deed (lines.Feed first last name) names =
    Some (deeds.Feed first last (place_in name names))
station_deed (lines.Restart name) names = Some (deeds.Restart (place_in name names))
station_deed (lines.Send name destination body) names =
    Some (deeds.Send (place_in name names) (record { destination = destination; body = body }))
station_deed (lines.Inject name octets) names = Some (deeds.Inject (place_in name names) octets)
station_deed _ names = None

-- The deed of a line, where the stations have these names. Lines that may only stand before the first
-- station have none, nor have those that a race is begun with and asks for.
abbrev pub deed_in : Line → List (List ℕ) → Option Deed
deed_in line names = option_or (group_deed line names) (station_deed line names)

abbrev pub deed_of : Line → World → Option Deed
deed_of line w = deed_in line (names_of w.run)

-- ---- what it names

-- the frames that a deed names
abbrev pub frames_named : Deed → Named ℕ
frames_named (deeds.Deliver frame s) = named.One frame
frames_named (deeds.Feed first last s) = named.Two first last
frames_named (deeds.Spread frame) = named.One frame
frames_named (deeds.Lose frame) = named.One frame
frames_named _ = named.Nothing

-- the stations that it names
abbrev pub stations_named : Deed → Named ℕ
stations_named (deeds.TickOne s ticks) = named.One s
stations_named (deeds.Deliver frame s) = named.One s
stations_named (deeds.Feed first last s) = named.One s
stations_named (deeds.Cut from to) = named.Two from to
stations_named (deeds.Mend from to) = named.Two from to
stations_named (deeds.Restart s) = named.One s
stations_named (deeds.Send s user) = named.One s
stations_named (deeds.Inject s octets) = named.One s
stations_named _ = named.Nothing

-- the name and the SCI of a station that it starts
abbrev pub started : Deed → Option (List ℕ × Sci)
started (deeds.Start name sci priority) = Some (name, sci)
started _ = None

-- ---- which may be done

-- the words of a deed are in their ranges
abbrev pub IsInRange : Deed → Type 0
IsInRange (deeds.Start name sci priority) = IsName name × IsSci sci × (priority ≤ 255)
IsInRange (deeds.Feed first last s) = (first ≤ last) × (last ≤ most_frames)
IsInRange (deeds.Send s user) = IsUserFrame user
IsInRange (deeds.Inject s octets) = (length octets ≤ 1600) × AreOctets octets
IsInRange _ = Unit {0}

-- whether a deed may be control's: in a race no station starts, no frames are fed, and only workers
-- send user data
abbrev pub is_control : Deed → Bool
is_control (deeds.Start name sci priority) = false
is_control (deeds.Feed first last s) = false
is_control (deeds.Send s user) = false
is_control _ = true

-- whether there is such a deed
abbrev pub may_control : Option Deed → Bool
may_control None = false
may_control (Some deed) = is_control deed

-- ---- what is kept for a race

-- a burst of a line
abbrev pub burst_of : World → Line → List Burst
burst_of w (lines.Burst name workers frames destination body) = record {
  station = place_in name (names_of w.run);
  workers = workers;
  frames = frames;
  user = record { destination = destination; body = body };
} ∷ []
burst_of w _ = []

-- the deed of a line, with the number that the line has
abbrev pub kept_line : World → Option Deed → List Numbered
kept_line w None = []
kept_line w (Some deed) = record { number = w.kept.line; deed = deed } ∷ []
