use Rattle.std.proofs.Common.{◌≡◌, ℕ, ◌+◌, ◌%◌, ◌^◌, Some, ap, arith, ◌∙◌}
use Rattle.std.proofs.Math.Nat.{mod-add-mod}
use Rattle.std.specs.Int.{w128, to_be_bytes}
use Rattle.lan_base.specs.Counted.{counted}
use Rattle.lan_base.proofs.draws.CountDrawsDraws.draw.Goals as goal

-- a counter that began again goes on as one that didn't
again : (m a k : ℕ) → ((a + 1) % m + k + 1) % m ≡ (a + (k + 1) + 1) % m
again m a k =
    let left : (a + 1) % m + k + 1 ≡ (a + 1) % m + (k + 1) = omega arith in
    let right : a + 1 + (k + 1) ≡ a + (k + 1) + 1 = omega arith in
    ap (λ n. n % m) left ∙ mod-add-mod (a + 1) m (k + 1) ∙ ap (λ n. n % m) right

counted-again : (a k : ℕ) → counted ((a + 1) % 2 ^ 128 + k + 1) ≡ counted (a + (k + 1) + 1)
unfolding counted
counted-again a k = ap (to_be_bytes w128) (again (2 ^ 128) a k)

counted-next : (a : ℕ) → to_be_bytes w128 ((a + 1) % 2 ^ 128) ≡ counted (a + 0 + 1)
unfolding counted
counted-next a =
    let same : a + 1 ≡ a + 0 + 1 = omega arith in
    ap (λ n. to_be_bytes w128 (n % 2 ^ 128)) same

pub returns-clause-next : goal.returns-clause-next
returns-clause-next c = ap Some (c.to_be_bytes.ensures ∙ counted-next c.args.self.now.drawn)

pub returns-clause-taken : goal.returns-clause-taken
returns-clause-taken c k = ap Some (counted-again c.args.self.now.drawn k)
