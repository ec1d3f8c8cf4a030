-- What is told of what events show.
use Rattle.std.specs.Prelude.{ℕ, List, [], ◌∷◌, ◌++◌}
use Rattle.lan_core.specs.declared.fact.Fact.{Fact}
use Rattle.lan_core.specs.Run.{Run}
use Rattle.trace_acts.specs.Names.{names_of}
pub use Rattle.trace_acts.specs.Tellings.{AreTold}

-- what is told of an event: the names that the stations have by then, and its facts
pub record Report : Type 0 where
  pub names : List (List ℕ)
  pub facts : List Fact

-- what is told of a run, the oldest first
abbrev pub reports : Run → List Report
reports [] = []
reports (x ∷ r) = reports r ++ record { names = names_of (x ∷ r); facts = x.facts } ∷ []
