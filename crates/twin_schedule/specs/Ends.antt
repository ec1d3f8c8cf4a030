-- What a call did of an act: what was told, what it left, and how it ended (this profile's own
-- rule). `Stands` says for which world a value stands; `Took` and `Broke` what a recorder does.
use Rattle.std.specs.Prelude.{◌≡◌, ◌⊎◌, List, ◌∷◌, ◌++◌, Result, Ok, Err}
use Rattle.trace_acts.specs.declared.halt.Halt.{Halt}
use Rattle.trace_acts.specs.declared.halt.Halt.TheVariants as halts
use Rattle.lan_base.specs.declared.sink.Unwritten.{Unwritten}
use Rattle.trace_acts.specs.Halts.{halt_of_unwritten}
use Rattle.trace_acts.specs.Tellings as tellings
pub use Rattle.trace_acts.specs.Tellings.{Begins, Moment, moment}
use Rattle.twin_schedule.specs.Sound.{IsTidy}
use Rattle.twin_schedule.specs.World.{World}
use Rattle.twin_schedule.specs.Acts.{Course, Goes, Stops}
use Rattle.twin_schedule.specs.Reports.{Report, last_reports, reports, AreTold}

-- a value stands for a tidy world
abbrev pub IsReached : {R : Type 0} → (World → R → Type 0) → World → R → Type 0
IsReached Stands w now = tellings.IsReached IsTidy Stands w now

-- what events showed from one world up to another was told
abbrev pub WasTold : {K : Type 0} → (K → Report → K → Type 0) → World → World → K → K → Type 0
WasTold Took w v old new = tellings.WasTold reports Took w v old new

-- from one world up to another all was told up to a report of the last event, at which the recorder
-- broke
pub record WasBroken {K : Type 0} (Took : K → Report → K → Type 0)
    (Broke : K → Report → K → Unwritten → Type 0) (w v : World) (old new : K) (halt : Halt) :
    Type 0 where
  pub told : List Report
  pub last : Report
  pub behind : List Report
  pub since : reports v.run ≡ reports w.run ++ (told ++ last ∷ behind)
  pub front : List Report
  pub prompt : last_reports v.run ≡ front ++ last ∷ behind
  pub before : K
  pub by_one : AreTold Took old told before
  pub why : Unwritten
  pub breaks : Broke before last new why
  pub is : halt ≡ halt_of_unwritten why

-- the act stopped in a tidy world, and all was told
pub record IsStopped {K : Type 0} (Took : K → Report → K → Type 0) (w : World) (out : Course)
    (old new : K) (halt : Halt) : Type 0 where
  pub world : World
  pub stops : out ≡ Stops world halt
  pub tidy : IsTidy world
  pub told : WasTold Took w world old new

-- all that a course reports, also before an act
abbrev pub reported : Course → List Report
reported out = tellings.reported reports out

-- on the way to this course a tidy world was reached, where memory was wanting, or the recorder broke
pub record WasCut {K : Type 0} (Took : K → Report → K → Type 0)
    (Broke : K → Report → K → Unwritten → Type 0) (w : World) (out : Course) (old new : K)
    (halt : Halt) : Type 0 where
  pub world : World
  pub tidy : IsTidy world
  pub begins : Begins (reports world.run) (reported out)
  pub cause : ((halt ≡ halts.Memory) × WasTold Took w world old new)
      ⊎ WasBroken Took Broke w world old new halt

-- How a call ends that begins in a world, and whose course would be this one. Its value then stands
-- for the world that is reached; or the act stops, or it was cut.
abbrev pub Ends : {R K : Type 0} → (World → R → Type 0) → (K → Report → K → Type 0)
    → (K → Report → K → Unwritten → Type 0) → World → Course → K → Moment R K
    → Result (Unit {0}) Halt → Type 0
Ends Stands Took Broke w out old new (Ok done) =
    (v : World) × (out ≡ Goes v) × IsReached Stands v new.value × WasTold Took w v old new.outlet
Ends Stands Took Broke w out old new (Err halt) =
    IsStopped Took w out old new.outlet halt ⊎ WasCut Took Broke w out old new.outlet halt
