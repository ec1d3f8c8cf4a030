-- How long ago a key began, in rounds.
use Rattle.std.proofs.Common.{◌≡◌, ℕ, suc, ◌+◌, ◌≤◌, ◌<◌, Option, Some, None}
use Rattle.std.proofs.Common.{refl, ap, ◌∙◌, arith, true}
use Rattle.lan_base.specs.Timers.{retire_time}
use Rattle.sak_exchange.specs.Histories.{clock, begun_at}
use Rattle.sak_exchange.specs.Lives.{IsFresh}
use Rattle.group_safety.proofs.rollover.Course.{Course, Lives}
use Rattle.group_safety.proofs.rollover.Spans.{from_to, clock-append}
use Rattle.group_safety.proofs.Members.{by_sum}

-- a key began no more ticks ago than so many rounds
abbrev pub IsRecent : Course → ℕ → ℕ → ℕ → ℕ → Type 0
IsRecent c u e since n = (at : ℕ) → begun_at (c.keys u n) e ≡ Some at
    → clock (c.keys u n) + c.waits u n + since ≤ at + c.rounds n

-- that goes on in a life
pub recent-on : (c : Course) (u e a b since : ℕ) → Lives c u a → a ≤ b → b ≤ c.end
    → c.from ≤ a → c.counted u ≡ true → ((n : ℕ) → a ≤ n → n < c.end → since ≤ c.rounds (suc n))
    → IsRecent c u e since a → IsRecent c u e since b
recent-on c u e a b since life low high early counted past begin =
    from_to (λ n. IsRecent c u e since n) a b low begin (λ n p q h at begun.
    let s = life.step n p (omega arith) in
    let grows = ap clock s.whole ∙ clock-append s.new (c.keys u n) in
    let timed = s.timed in
    let counts = s.counts (omega arith) counted in
    by_sum (s.begins e at begun)
    (λ before. let r = h at before in omega arith)
    (λ now. let same = now.0 in let idle = now.1 in
    let rise = past n p (omega arith) in omega arith))

-- so it is fresh where fewer rounds than the retire time have gone by, and nobody waits
pub fresh-of : (c : Course) (u e since n : ℕ) → IsRecent c u e since n → c.waits u n ≡ 0
    → c.rounds n < since + retire_time → IsFresh (clock (c.keys u n)) (begun_at (c.keys u n) e)
fresh-of c u e since n recent idle soon = go (begun_at (c.keys u n) e) refl
  where
    go : (o : Option ℕ) → begun_at (c.keys u n) e ≡ o → IsFresh (clock (c.keys u n)) o
    go None same = tt
    go (Some at) same = let r = recent at same in omega arith
