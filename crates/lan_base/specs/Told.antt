-- Octets that the outside may tell (this profile's own rule): what a source has left, what a sink
-- holds. `None` tells nothing.
use Rattle.std.specs.Prelude.{◌≡◌, ℕ, ◌++◌, [], List, length, Option, IfSome}
use Rattle.std.specs.Option.{option_map}

-- these octets, and then what is told
abbrev pub before : List ℕ → Option (List ℕ) → Option (List ℕ)
before octets told = option_map (λ rest. octets ++ rest) told

-- what is told, and then these octets
abbrev pub after : Option (List ℕ) → List ℕ → Option (List ℕ)
after told octets = option_map (λ held. held ++ octets) told

-- where octets are told, there are none
abbrev pub IsUsedUp : Option (List ℕ) → Type 0
IsUsedUp told = IfSome told (λ octets. octets ≡ [])

-- some octets, whose count is so, were taken from the front of what was left
abbrev pub Took : (ℕ → Type 0) → Option (List ℕ) → Option (List ℕ) → Type 0
Took IsCount old new = (octets : List ℕ) × IsCount (length octets) × (old ≡ before octets new)
