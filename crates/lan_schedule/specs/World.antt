-- What the lines so far have made: a run, and what is kept beside it.
use Rattle.std.specs.Prelude.{ℕ, ◌-◌, Bool, true}
use Rattle.std.specs.Prelude.{false, nat_eq, zero, suc}
use Rattle.std.specs.Prelude.{List, [], ◌∷◌, map, length, slice_get, option_map}
use Rattle.std.specs.Prelude.{unwrap_or, sum}
use Rattle.std.specs.List.{flat_map, position_or_len}
use Rattle.std.specs.Cmp.Lexicographic.{pointwise}
use Rattle.lan_base.specs.declared.frame.UserFrame.{UserFrame}
use Rattle.lan_core.specs.declared.fact.Fact.{Fact}
use Rattle.lan_core.specs.declared.fact.Fact.TheVariants as facts
use Rattle.lan_core.specs.declared.settings.Settings.{Settings}
use Rattle.lan_core.specs.Run.{Run, stations}
use Rattle.lan_core.specs.Ledgers.{air}
use Rattle.trace_acts.specs.Acts as acts
use Rattle.trace_acts.specs.declared.choices.Choices.{Choices}
use Rattle.trace_acts.specs.declared.links.Link.{Link}
use Rattle.trace_acts.specs.Settings.{no_choice, settings_of}
use Rattle.trace_acts.specs.Names.{names_of}
use Rattle.lan_schedule.specs.declared.frames.Put.{Put}
use Rattle.lan_schedule.specs.Races.{Phase, Apart, Racing, Chance, Raced}

-- what is kept beside the run: the number of the line that is performed; what the lines before the
-- first station chose, and whether that station came; the user frame of each line that sends; the
-- frames of the air, by number; the links that are cut; the count of flow rounds; how many draws
-- were taken; where in a race the lines stand, and whether one was begun; the races that were run;
-- and what chance will decide
pub record Kept : Type 0 where
  pub line : ℕ
  pub chosen : Choices
  pub begun : Bool
  pub users : List UserFrame
  pub frames : List Put
  pub cuts : List Link
  pub rounds : ℕ
  pub taken : ℕ
  pub phase : Phase
  pub raced : Bool
  pub races : List Raced
  pub chances : List Chance

abbrev pub World : Type 0
World = acts.World Run Kept

-- no line was performed, and this is what chance will decide
abbrev pub nothing_kept : List Chance → Kept
nothing_kept chances = record {
  line = 0;
  chosen = no_choice;
  begun = false;
  users = [];
  frames = [];
  cuts = [];
  rounds = 0;
  taken = 0;
  phase = Apart;
  raced = false;
  races = [];
  chances = chances;
}

abbrev pub beginning : List Chance → World
beginning chances = record { run = []; kept = nothing_kept chances }

-- whether control's lines are performed beside workers
abbrev pub is_racing : Phase → Bool
is_racing Racing = true
is_racing _ = false

-- ---- stations

-- how many stations there are
abbrev pub count : World → ℕ
count w = length (stations w.run)

-- the place of a name among these; where there is none, the count of them
abbrev pub place_in : List ℕ → List (List ℕ) → ℕ
place_in name names = position_or_len (pointwise nat_eq name) names

-- the place of the station of this name; where there is none, the count of stations
abbrev pub place : World → List ℕ → ℕ
place w name = place_in name (names_of w.run)

-- what holds for the whole group
abbrev pub settings : World → Settings
settings w = settings_of w.kept.chosen

-- ---- frames

-- what facts put on the air
abbrev pub put_by : ℕ → Fact → List Put
put_by rounds (facts.Framed number station sec octets) =
    record { number = number; sender = station; at = rounds; marked = false } ∷ []
put_by rounds _ = []

abbrev pub puts : ℕ → List Fact → List Put
puts rounds shown = flat_map (put_by rounds) shown

abbrev pub with_mark : Put → Put
with_mark put = record put { marked = true }

-- the frame at a place, from 0, is marked
abbrev pub marked_at : ℕ → List Put → List Put
marked_at n [] = []
marked_at zero (put ∷ others) = with_mark put ∷ others
marked_at (suc n) (put ∷ others) = put ∷ marked_at n others

-- the frame of a number, from 1, waits for no round any more
abbrev pub mark : ℕ → Kept → Kept
mark number kept = record kept { frames = marked_at (number - 1) kept.frames }

-- the sender of the frame at a place, from 0
abbrev pub sender_at : ℕ → List Put → ℕ
sender_at n frames = unwrap_or (option_map (λ put. put.sender) (slice_get frames n)) 0

-- the sender of the frame of a number, from 1
abbrev pub sender : World → ℕ → ℕ
sender w number = sender_at (number - 1) w.kept.frames

-- how many octets the frames of the air have
abbrev pub air_octets : Run → ℕ
air_octets r = sum (map (λ frame. length frame.octets) (air r))

-- the frames by number, and the count of flow rounds
pub record Flow : Type 0 where
  pub frames : List Put
  pub rounds : ℕ

abbrev pub flow_of : World → Flow
flow_of w = record { frames = w.kept.frames; rounds = w.kept.rounds }
