-- The stations of a run by their places: their names, and the facts that speak of them.
use Rattle.std.specs.Prelude.{◌<◌, List, map, length, All}
use Rattle.lan_base.specs.declared.name.Name.{Name}
use Rattle.lan_core.specs.declared.fact.Fact.{Fact}
use Rattle.lan_core.specs.Run.{Run, place, stations}

-- the names of the stations by place
abbrev pub names : Run → List Name
names r = map (λ p. p.name) (stations r)

-- each of these facts speaks of a station of the run
abbrev pub ArePlaced : Run → List Fact → Type 0
ArePlaced r facts = All (λ fact. place fact < length (stations r)) facts
