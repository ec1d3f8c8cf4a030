-- Appending to a vector that has room (this profile's own rule).
use Rattle.std.specs.Prelude.{◌≡◌, ◌≤◌, ℕ, ◌+◌, List, ◌++◌, length}
use Rattle.std.specs.Vec.{vec_capacity}
use Rattle.std.specs.Global.{Vec}

-- there is room for the octets
pub record HasRoom (v : Vec ℕ) (octets : List ℕ) : Type 0 where
  pub enough : length v.items + length octets ≤ vec_capacity v

-- the octets are appended, and no room is lost
pub record Puts (old new : Vec ℕ) (octets : List ℕ) : Type 0 where
  pub items : new.items ≡ old.items ++ octets
  pub capacity : vec_capacity old ≤ vec_capacity new
