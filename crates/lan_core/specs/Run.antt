-- A run of the group: events, newest first, each with the facts that it showed, oldest first.
use Rattle.std.specs.Prelude.{ℕ, List, [], ◌∷◌, ◌++◌}
use Rattle.lan_base.specs.declared.name.Name.{Name}
use Rattle.lan_base.specs.declared.address.Sci.{Sci}
use Rattle.lan_core.specs.declared.event.Event.{Event}
use Rattle.lan_core.specs.declared.event.Event.TheVariants.{Start}
use Rattle.lan_core.specs.declared.fact.Fact.{Fact}
pub use Rattle.lan_core.specs.TypedFacts.{place}

-- one event and its facts
pub record Happening : Type 0 where
  pub event : Event
  pub facts : List Fact

-- an event that showed these facts
abbrev pub happened : Event → List Fact → Happening
happened event facts = record { event = event; facts = facts }

abbrev pub Run : Type 0
Run = List Happening

-- what a station starts with
pub record Profile : Type 0 where
  pub name : Name
  pub sci : Sci
  pub priority : ℕ

-- the station that an event starts
abbrev pub started : Event → List Profile
started (Start name sci priority) = record { name = name; sci = sci; priority = priority } ∷ []
started _ = []

-- the stations in the order of their starts: station s stands at place s
unfoldable pub stations : Run → List Profile
stations [] = []
stations (x ∷ r) = stations r ++ started x.event

-- all facts, oldest first
abbrev pub facts_of : Run → List Fact
facts_of [] = []
facts_of (x ∷ r) = facts_of r ++ x.facts
