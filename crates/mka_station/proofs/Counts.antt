-- The number of the next announcement.
use Rattle.std.proofs.Common.{◌≡◌, ◌∙◌, ◌<◌, ◌+◌, min, ℕ, Bool, true, false, cond, ◌&&◌, nat_lt, Option, Some, None, refl, sym, arith}
use Rattle.std.proofs.lemmas.Bool.Decides.{nat_tests}
use Rattle.sak_exchange.proofs.Public.{by_test}

below-is : (n k : ℕ) → n < k → nat_lt n k ≡ true
below-is n k l = grind (arith, nat_tests)

pub counted-next : (b : Bool) (n k : ℕ) (r : Option ℕ) → r ≡ cond (b && nat_lt n k) (Some n) None → b ≡ true → n < k → r ≡ Some n
counted-next b n k r is may l = is ∙ rw (may, below-is n k l) refl

both-hold : (b c : Bool) → (b && c) ≡ true → b ≡ true
both-hold true c is = refl
both-hold false c is = absurd (cc (is))

pub next-counted : (b : Bool) (n k j : ℕ) (r : Option ℕ) → r ≡ cond (b && nat_lt n k) (Some n) None → r ≡ Some j → (j ≡ n) × (b ≡ true)
next-counted b n k j r is some =
    by_test (b && nat_lt n k)
    (λ e. let f : Some n ≡ Some j = sym (rw e at is) ∙ some in let g : n ≡ j = cc (f) in (sym g, both-hold b (nat_lt n k) e))
    (λ e. let f : None ≡ Some j = sym (rw e at is) ∙ some in absurd (cc (f)))

-- a count that goes on where it has room
pub counted-epochs : (b c : Bool) (n : ℕ) → b ≡ c → n + 1 < 4294967296 → cond b (min (n + 1) 4294967295) n ≡ n + cond c 1 0
counted-epochs b true n is l = rw is (omega arith)
counted-epochs b false n is l = rw is (omega arith)
