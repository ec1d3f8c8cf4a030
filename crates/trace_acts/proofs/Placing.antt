-- Names and their places.
use Rattle.std.proofs.Common.{◌≡◌, ◌<◌, ◌≤◌, ℕ, ◌+◌, Bool, true, false, List, [], ◌∷◌, length}
use Rattle.std.proofs.Common.{Some, None, refl, ap, arith}
use Rattle.std.specs.Prelude.{cond, not, map, ◌||◌}
use Rattle.std.specs.List.{list_any, position_or_len}
use Rattle.lan_base.specs.declared.address.Sci.{Sci}
use Rattle.trace_acts.specs.declared.halt.Kind.TheVariants as kinds
use Rattle.trace_acts.specs.Kinds.{or_else, where_}

pub place-within : {X : Type 0} (p : X → Bool) (xs : List X) → position_or_len p xs ≤ length xs
place-within p [] = omega arith
place-within p (x ∷ xs) = by (p x) (place-within p xs) where
  by : (b : Bool) → position_or_len p xs ≤ length xs
      → cond (not b) (1 + position_or_len p xs) 0 ≤ length (x ∷ xs)
  by true le = omega arith
  by false le = omega arith

-- a place of what is there
pub place-there : {X : Type 0} (p : X → Bool) (xs : List X) → list_any p xs ≡ true
    → position_or_len p xs < length xs
place-there p [] e = absurd (let bad : false ≡ true = e in cc)
place-there p (x ∷ xs) e = by (p x) (λ f. place-there p xs f) e where
  by : (b : Bool) → (list_any p xs ≡ true → position_or_len p xs < length xs)
      → (b || list_any p xs) ≡ true
      → cond (not b) (1 + position_or_len p xs) 0 < length (x ∷ xs)
  by true ih e = omega arith
  by false ih e = let lt : position_or_len p xs < length xs = ih e in omega arith

-- a test of what items have
pub any-map : (p : List ℕ → Bool) (scis : List Sci)
    → list_any p (map (λ (s : Sci). s.0) scis) ≡ list_any (λ (s : Sci). p s.0) scis
any-map p [] = refl
any-map p (s ∷ scis) = ap (λ (b : Bool). p s.0 || b) (any-map p scis)

pub taken-sci : (named has : Bool) → named ≡ false → has ≡ true
    → Some kinds.SciTaken ≡ or_else (where_ named kinds.NameTaken) (where_ has kinds.SciTaken)
taken-sci named has free there = rw (free, there) refl

pub taken-none : (named has : Bool) → named ≡ false → has ≡ false
    → None ≡ or_else (where_ named kinds.NameTaken) (where_ has kinds.SciTaken)
taken-none named has free absent = rw (free, absent) refl
