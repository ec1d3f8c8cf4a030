-- The facts of a run, event by event.
use Rattle.std.specs.Prelude.{List, [], ◌∷◌, ◌++◌}
use Rattle.lan_core.specs.declared.fact.Fact.{Fact}
use Rattle.lan_core.specs.Run.{Run}

-- the facts of each event, those of the oldest first
abbrev pub events_of : Run → List (List Fact)
events_of [] = []
events_of (x ∷ r) = events_of r ++ x.facts ∷ []
