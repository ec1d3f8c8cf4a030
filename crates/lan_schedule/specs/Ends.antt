-- What a call did of an act: what was told, what it left, and how it ended (this profile's own
-- rule). `Took` and `Broke` say what a recorder does.
use Rattle.std.specs.Prelude.{◌≡◌, ◌⊎◌, ◌≤◌, false, List, [], ◌∷◌, ◌++◌, length, Result, Ok, Err}
use Rattle.trace_acts.specs.declared.halt.Halt.{Halt}
use Rattle.trace_acts.specs.declared.halt.Halt.TheVariants as halts
use Rattle.lan_base.specs.declared.sink.Unwritten.{Unwritten}
use Rattle.trace_acts.specs.Halts.{halt_of_unwritten}
use Rattle.trace_acts.specs.Tellings as tellings
pub use Rattle.trace_acts.specs.Tellings.{Begins, Moment, moment}
use Rattle.lan_schedule.specs.Races.{Chance, behind_numbers}
use Rattle.lan_schedule.specs.Sound.{IsTidy}
use Rattle.lan_schedule.specs.World.{World, is_racing}
use Rattle.lan_schedule.specs.Acts.{Act, BeginsAt, Course, Goes, Stops, perform, IsOnWay}
use Rattle.lan_schedule.specs.Reports.{Report, reports, AreTold}

-- What is said of a kind of value: for which world it stands, what a halt leaves of it in a world, and of
-- which world it has the tally.
pub record Standing (R : Type 0) : Type 1 where
  pub Stands : World → R → Type 0
  pub Leaves : Halt → World → R → Type 0
  pub Counts : World → R → Type 0

-- a value stands for a tidy world
abbrev pub IsReached : {R : Type 0} → (World → R → Type 0) → World → R → Type 0
IsReached Stands w now = tellings.IsReached IsTidy Stands w now

-- what events showed from one world up to another was told
abbrev pub WasTold : {K : Type 0} → (K → Report → K → Type 0) → World → World → K → K → Type 0
WasTold Took w v old new = tellings.WasTold reports Took w v old new

-- From one world up to another all was told up to the report at which the recorder broke. It is that
-- of the last event: only a race happens as a whole before it is told.
pub record WasBroken {K : Type 0} (Took : K → Report → K → Type 0)
    (Broke : K → Report → K → Unwritten → Type 0) (w v : World) (old new : K) (halt : Halt) :
    Type 0 where
  pub told : List Report
  pub last : Report
  pub behind : List Report
  pub since : reports v.run ≡ reports w.run ++ (told ++ last ∷ behind)
  pub prompt : v.kept.raced ≡ false → behind ≡ []
  pub before : K
  pub by_one : AreTold Took old told before
  pub why : Unwritten
  pub breaks : Broke before last new why
  pub is : halt ≡ halt_of_unwritten why

-- The act stopped in a tidy world, of which the value has what such a halt leaves; all was told, and a
-- number that the act was to show may be left.
pub record IsStopped {R K : Type 0} (Leaves : Halt → World → R → Type 0)
    (Took : K → Report → K → Type 0) (w : World) (later : List Chance) (out : Course) (old : K) (new : Moment R K) (halt : Halt) :
    Type 0 where
  pub world : World
  pub stops : out ≡ Stops world halt
  pub tidy : IsTidy world
  pub leaves : Leaves halt world new.value
  pub told : WasTold Took w world old new.outlet
  pub left : behind_numbers world.kept.chances ≡ behind_numbers later
  pub same : is_racing world.kept.phase ≡ is_racing w.kept.phase

-- all that a course reports, also before an act
abbrev pub reported : Course → List Report
reported out = tellings.reported reports out

-- All that events showed up to a world was told in which a part of the act begins, and nothing of the one
-- event behind it, if another world has one.
pub record WasToldTo {K : Type 0} (Took : K → Report → K → Type 0) (w v : World)
    (IsBegin : World → Type 0) (old new : K) : Type 0 where
  pub world : World
  pub tidy : IsTidy world
  pub same : is_racing world.kept.phase ≡ is_racing w.kept.phase
  pub begins : IsBegin world
  pub told : WasTold Took w world old new
  pub untold : List Report
  pub since : reports v.run ≡ reports world.run ++ untold
  pub few : length untold ≤ 1

-- A tidy world was reached on the way, where memory was wanting, or the outlet broke. For want of memory
-- nothing was told of a race, unless the outlet itself took no more.
pub record WasCut {R K : Type 0} (Counts : World → R → Type 0) (Took : K → Report → K → Type 0)
    (Broke : K → Report → K → Unwritten → Type 0) (w : World) (IsOn IsBegin : World → Type 0) (old : K)
    (new : Moment R K) (halt : Halt) : Type 0 where
  pub world : World
  pub tidy : IsTidy world
  pub counts : Counts world new.value
  pub same : is_racing world.kept.phase ≡ is_racing w.kept.phase
  pub on_way : IsOn world
  pub cause : ((halt ≡ halts.Memory) × WasToldTo Took w world IsBegin old new.outlet)
      ⊎ WasBroken Took Broke w world old new.outlet halt

-- How a call ends that begins in a world, and would perform this act: in the midst of a race
-- where it began there, and with the chances that come behind it. Its value then stands for the
-- world; where it ended early it has its tally, and at a stop what the halt leaves.
abbrev pub Ends : {R K : Type 0} → Standing R → (K → Report → K → Type 0)
    → (K → Report → K → Unwritten → Type 0) → World → List Chance → Act → K → Moment R K
    → Result (Unit {0}) Halt → Type 0
Ends standing Took Broke w later act old new (Ok done) =
    (v : World) × (perform act w ≡ Goes v) × IsReached standing.Stands v new.value
    × WasTold Took w v old new.outlet × (v.kept.chances ≡ later)
    × (is_racing v.kept.phase ≡ is_racing w.kept.phase)
Ends standing Took Broke w later act old new (Err halt) =
    IsStopped standing.Leaves Took w later (perform act w) old new halt
    ⊎ WasCut standing.Counts Took Broke w (IsOnWay act w) (BeginsAt act w) old new halt
