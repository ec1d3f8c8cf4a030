-- Where the packets of a history stand that give keys.
use Rattle.std.specs.Prelude.{ℕ, ◌<◌, ◌≤◌, List, [], ◌∷◌}
use Rattle.known_keys.specs.History.{Entry, Gave}

-- each packet that gives something has a number up to this one
abbrev pub IsWithin : ℕ → List Entry → Type 0
IsWithin end [] = Unit {0}
IsWithin end (Gave packet nanos group id an what ∷ before) = (packet ≤ end) × IsWithin end before
IsWithin end (entry ∷ before) = IsWithin end before

-- each has a number above it
abbrev pub IsBehind : ℕ → List Entry → Type 0
IsBehind end [] = Unit {0}
IsBehind end (Gave packet nanos group id an what ∷ before) = (end < packet) × IsBehind end before
IsBehind end (entry ∷ before) = IsBehind end before
