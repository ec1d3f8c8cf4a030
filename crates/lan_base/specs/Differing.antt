-- Lists in which nothing stands twice.
use Rattle.std.specs.Prelude.{◌≢◌, List, [], ◌∷◌}

-- this is none of the others
abbrev pub DiffersFrom : {A : Type 0} → A → List A → Type 0
DiffersFrom a [] = Unit {0}
DiffersFrom a (b ∷ bs) = (a ≢ b) × DiffersFrom a bs

-- no two places have the same
abbrev pub AllDiffer : {A : Type 0} → List A → Type 0
AllDiffer [] = Unit {0}
AllDiffer (a ∷ others) = DiffersFrom a others × AllDiffer others
