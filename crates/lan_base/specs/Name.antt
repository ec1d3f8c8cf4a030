-- Names of stations, which are this profile's own rule.
use Rattle.std.specs.Prelude.{◌≡◌, ℕ, ◌-◌, ◌≤◌, List, [], ◌∷◌, ◌++◌, Bool, false, ◌&&◌, IsTrue, nat_le, length, take, replicate}
use Rattle.std.specs.List.{list_all}
use Rattle.std.specs.Char.{is_ascii_alphabetic, is_ascii_alphanumeric}

-- an ASCII letter and up to 15 further ASCII letters or digits
abbrev pub is_name : List ℕ → Bool
is_name [] = false
is_name (first ∷ others) =
    is_ascii_alphabetic first && list_all is_ascii_alphanumeric others && nat_le (length others) 15

abbrev pub IsName : List ℕ → Type 0
IsName octets = IsTrue (is_name octets)

-- the octets of a name, filled up to 16 with zeros
abbrev pub padded : List ℕ → List ℕ
padded name = name ++ replicate (16 - length name) 0

-- these 16 octets begin with a name of this length, and go on with zeros
pub record IsPadded (octets : List ℕ) (len : ℕ) : Type 0 where
  pub within : len ≤ length octets
  pub name : IsName (take len octets)
  pub zeros : octets ≡ padded (take len octets)
