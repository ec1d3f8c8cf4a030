-- How the word of a number begins.
use Rattle.std.specs.Prelude.{ℕ, ◌==◌, ◌&&◌, ◌||◌, nat_le, Bool, false, List, [], ◌∷◌, length}

-- with a digit that is not 0, or it is 0 alone
abbrev pub is_led : List ℕ → Bool
is_led [] = false
is_led (first ∷ rest) = nat_le 49 first && nat_le first 57 || first == 48 && length rest == 0
