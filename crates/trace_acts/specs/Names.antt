-- The names and the SCIs of a run's stations.
use Rattle.std.specs.Prelude.{ℕ, Bool, nat_eq, List, map}
use Rattle.std.specs.List.{list_any}
use Rattle.std.specs.Cmp.Lexicographic.{pointwise}
use Rattle.lan_core.specs.Run.{Run, stations}

abbrev pub names_of : Run → List (List ℕ)
names_of r = map (λ p. p.name) (stations r)

abbrev pub scis_of : Run → List (List ℕ)
scis_of r = map (λ p. p.sci.0) (stations r)

-- whether this is one of the names, or of the SCIs
abbrev pub is_in : List ℕ → List (List ℕ) → Bool
is_in octets others = list_any (pointwise nat_eq octets) others
