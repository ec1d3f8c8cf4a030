-- What is told of what events show.
use Rattle.std.specs.Prelude.{ℕ, List, [], ◌∷◌, ◌++◌, map}
use Rattle.lan_core.specs.declared.fact.Fact.{Fact}
use Rattle.cak_roll.specs.declared.event.GroupNumber.{GroupNumber}
use Rattle.cak_roll.specs.declared.told.Told.{Told}
use Rattle.cak_roll.specs.Twin.{Twin}
use Rattle.cak_roll.specs.Answers.{told_in}
pub use Rattle.trace_acts.specs.Tellings.{AreTold}
use Rattle.twin_schedule.specs.World.{names_in}

-- what is told of an event of a group: the group, the names that its stations have by then, in the
-- order in which they joined it, and the event's facts
pub record Report : Type 0 where
  pub group : GroupNumber
  pub names : List (List ℕ)
  pub facts : List Fact

abbrev pub report_of : Twin → Told → Report
report_of t told = record { group = told.group; names = names_in told.group t; facts = told.facts }

-- what is told of the last event of a run: of each event that it is in the first group, and then in
-- the second
abbrev pub last_reports : Twin → List Report
last_reports [] = []
last_reports (x ∷ t) = map (report_of (x ∷ t)) (told_in x)

-- what is told of a run, the oldest first
abbrev pub reports : Twin → List Report
reports [] = []
reports (x ∷ t) = reports t ++ last_reports (x ∷ t)
