-- How the lines of a transcript name its stations (this profile's own rule): a `life` line under a
-- name that is not known names the station that comes next.
use Rattle.std.specs.Prelude.{ℕ, ◌≡◌, ◌≢◌, ◌<◌, ◌⊎◌, List, [], ◌∷◌, ◌++◌, length, All}
use Rattle.lan_base.specs.declared.address.Mi.{Mi}
use Rattle.lan_base.specs.Name.{IsName}
use Rattle.lan_core.specs.declared.fact.Fact.{Fact}
use Rattle.lan_core.specs.declared.fact.Fact.TheVariants.{Life}
use Rattle.transcript.specs.Rendering.{Says}

-- a transcript names at most so many stations
abbrev pub most_named : ℕ
most_named = 16

-- a fact names the station that comes next after those with names: it is the first life of it, and
-- its name is none of theirs
pub record IsNaming (names after : List (List ℕ)) (fact : Fact) : Type 0 where
  pub name : List ℕ
  pub mi : Mi
  pub grown : after ≡ names ++ name ∷ []
  pub well_formed : IsName name
  pub new : All (λ other. other ≢ name) names
  pub room : length names < most_named
  pub life : fact ≡ Life (length names) mi

-- after these names, a line is that of this fact, and those are the names then
abbrev pub Reads : List (List ℕ) → List ℕ → List (List ℕ) → Fact → Type 0
Reads names octets after fact = Says after octets fact × ((after ≡ names) ⊎ IsNaming names after fact)
