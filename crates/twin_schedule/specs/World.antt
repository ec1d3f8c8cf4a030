-- What the lines so far have made: a twin run, and what is kept beside it.
use Rattle.std.specs.Prelude.{ℕ, ◌==◌, ◌-◌, ◌&&◌, Bool, false, not, nat_eq, List, [], ◌∷◌, ◌++◌}
use Rattle.std.specs.Prelude.{length, get_or, Option, Some, None}
use Rattle.std.specs.List.{list_any, position_or_len, range_with_len}
use Rattle.std.specs.Cmp.Lexicographic.{pointwise}
use Rattle.lan_base.specs.declared.frame.UserFrame.{UserFrame}
use Rattle.lan_core.specs.declared.settings.Settings.{Settings}
use Rattle.lan_core.specs.Run.{stations}
use Rattle.lan_core.specs.Ledgers.{Frame, air}
use Rattle.cak_roll.specs.declared.event.GroupNumber.{GroupNumber}
use Rattle.cak_roll.specs.declared.event.GroupNumber.TheVariants.{First, Second}
use Rattle.cak_roll.specs.Twin.{Pair, Twin, of_group, run_of, adopters, takes_part}
use Rattle.cak_roll.specs.Answers.{another}
use Rattle.trace_acts.specs.Acts as acts
use Rattle.trace_acts.specs.declared.choices.Choices.{Choices}
use Rattle.trace_acts.specs.declared.choices.Keyed.{Keyed}
use Rattle.trace_acts.specs.declared.links.Link.{Link}
use Rattle.trace_acts.specs.Settings.{no_choice, settings_of}
use Rattle.trace_acts.specs.Names.{names_of, scis_of}

-- what is kept beside the run: the number of the line that is performed; what the lines before the
-- first station chose; the second group's key and name, if it came; whether a station came; the user
-- frame of each line that sends; the links that are cut, for both groups; how many draws were taken;
-- and how many frames of each group's air were spread
pub record Kept : Type 0 where
  pub line : ℕ
  pub chosen : Choices
  pub second : Option Keyed
  pub begun : Bool
  pub users : List UserFrame
  pub cuts : List Link
  pub taken : ℕ
  pub first_spread : ℕ
  pub second_spread : ℕ

abbrev pub World : Type 0
World = acts.World Twin Kept

-- no line was performed
abbrev pub nothing_kept : Kept
nothing_kept = record {
  line = 0;
  chosen = no_choice;
  second = None;
  begun = false;
  users = [];
  cuts = [];
  taken = 0;
  first_spread = 0;
  second_spread = 0;
}

abbrev pub beginning : World
beginning = record { run = []; kept = nothing_kept }

-- so far lines chose, and the last has this number
abbrev pub waiting : ℕ → Choices → Option Keyed → World
waiting line chosen second = record {
  run = [];
  kept = record nothing_kept { line = line; chosen = chosen; second = second };
}

-- ---- the groups

-- as long as there is no second group, it counts as the first
abbrev pub second_of : Settings → Option Keyed → Settings
second_of first None = first
second_of first (Some keyed) = another first keyed.cak keyed.ckn

-- what was chosen holds for both groups
abbrev pub pair_by : Choices → Option Keyed → Pair
pair_by chosen second =
    record { first = settings_of chosen; second = second_of (settings_of chosen) second }

-- what holds for each of the two groups
abbrev pub pair_of : World → Pair
pair_of w = pair_by w.kept.chosen w.kept.second

-- ---- stations

-- how many stations there are
abbrev pub count : World → ℕ
count w = length (stations (run_of First w.run))

-- the names of the stations of a group, in the order in which they joined it
abbrev pub names_in : GroupNumber → Twin → List (List ℕ)
names_in g t = names_of (run_of g t)

abbrev pub names : World → List (List ℕ)
names w = names_in First w.run

abbrev pub scis : World → List (List ℕ)
scis w = scis_of (run_of First w.run)

-- the place of the station of this name; where there is none, the count of stations
abbrev pub place : World → List ℕ → ℕ
place w name = position_or_len (pointwise nat_eq name) (names w)

-- the stations that joined a group, in that order
abbrev pub joined : GroupNumber → Twin → List ℕ
joined g t = of_group g (range_with_len 0 (length (stations (run_of First t)))) (adopters t)

-- a station adopted the second group
abbrev pub has_adopted : ℕ → Twin → Bool
has_adopted s t = list_any (λ u. u == s) (adopters t)

-- a station takes part in no group
abbrev pub is_out : ℕ → Twin → Bool
is_out s t = not (takes_part First s t) && not (takes_part Second s t)

-- ---- frames

-- how many frames the air of a group has
abbrev pub frames : GroupNumber → Twin → ℕ
frames g t = length (air (run_of g t))

-- the senders of frames by their places in the group, that of the oldest frame first
abbrev pub senders_of : List Frame → List ℕ
senders_of [] = []
senders_of (frame ∷ earlier) = senders_of earlier ++ frame.station ∷ []

-- the station at a place of a group
abbrev pub station_at : GroupNumber → Twin → ℕ → ℕ
station_at First t place = place
station_at Second t place = get_or (adopters t) place 0

-- the sender of a group's frame of a number, from 1
abbrev pub sender : GroupNumber → ℕ → Twin → ℕ
sender g number t =
    station_at g t (get_or (senders_of (air (run_of g t))) (number - 1) 0)

-- how many frames of a group were spread
abbrev pub spread_in : GroupNumber → Kept → ℕ
spread_in g kept = of_group g kept.first_spread kept.second_spread

-- so many were
abbrev pub has_spread : GroupNumber → ℕ → Kept → Kept
has_spread First count kept = record kept { first_spread = count }
has_spread Second count kept = record kept { second_spread = count }
