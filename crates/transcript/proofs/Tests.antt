-- What the tests of numbers and of words tell.
use Rattle.std.proofs.Common.{◌≡◌, ℕ, suc, ◌+◌, ◌<◌, ◌≤◌, Bool, true, false, refl, arith}
use Rattle.std.specs.Prelude.{◌==◌, ◌&&◌, nat_le, nat_lt}
use Rattle.std.proofs.lemmas.Bool.Decides.{nat_tests}

pub both : (a b : Bool) → a && b ≡ true → (a ≡ true) × (b ≡ true)
both true true e = (refl, refl)
both true false e = absurd cc
both false b e = absurd cc

pub same-number : (n m : ℕ) → (n == m) ≡ true → n ≡ m
same-number n m e = grind (arith, nat_tests)

pub below : (n m : ℕ) → nat_lt n m ≡ true → n < m
below n m e = grind (arith, nat_tests)

pub at-most : (n m : ℕ) → nat_le n m ≡ true → n ≤ m
at-most n m e = grind (arith, nat_tests)

pub one-more : (n : ℕ) → 1 + n ≡ suc n
one-more n = omega arith
