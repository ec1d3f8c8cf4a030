-- Where few numbers were claimed and few are unused, no next number is past the last one.
use Rattle.std.proofs.Common.{◌≡◌, ◌<◌, ◌≤◌, ℕ, zero, suc, ◌+◌, ◌-◌, ◌^◌, ◌==◌, ◌&&◌, ◌||◌, Bool, true, false}
use Rattle.std.proofs.Common.{List, [], ◌∷◌, length, refl, sym, inl, inr, arith}
use Rattle.std.specs.Prelude.{cond, not}
use Rattle.std.specs.List.{filter, list_any, range_with_len}
use Rattle.std.proofs.lemmas.Bool.{and_parts, cases_Bool, eqb-true}
use Rattle.std.proofs.lemmas.List.Filters.{length-filter_both}
use Rattle.std.proofs.lemmas.List.FromFn.{length-range_with_len}
use Rattle.lan_core.specs.declared.settings.Settings.{Settings}
use Rattle.lan_core.specs.Claims.{next}
use Rattle.lan_core.specs.Expected.{last_number}
use Rattle.lan_core.specs.Ledgers.{Claim, claims}
use Rattle.lan_core.specs.Legal.{is_claim_of, is_unused, unused}
use Rattle.lan_core.specs.Run.{Run}
use Rattle.lan_schedule.proofs.Coming.{one-at-least}

-- ---- numbers of a range that pass a test

keeps-none : (p : ℕ → Bool) (k a n : ℕ) → ((m : ℕ) → p m ≡ true → m ≡ k) → k < a
    → length (filter p (range_with_len a n)) ≡ 0
keeps-none p k a zero only below = refl
keeps-none p k a (suc n) only below = elim (cases_Bool (p a)) [
  | inl passes ↦ absurd (let at = only a passes in omega (arith, at, below))
  | inr fails ↦ rw fails (keeps-none p k (a + 1) n only (omega (arith, below)))
]

keeps-one : (p : ℕ → Bool) (k a n : ℕ) → ((m : ℕ) → p m ≡ true → m ≡ k)
    → length (filter p (range_with_len a n)) ≤ 1
keeps-one p k a zero only = omega arith
keeps-one p k a (suc n) only = elim (cases_Bool (p a)) [
  | inl passes ↦ (let at = only a passes in
      let rest = keeps-none p k (a + 1) n only (omega (arith, at)) in rw passes (omega (arith, rest)))
  | inr fails ↦ rw fails (keeps-one p k (a + 1) n only)
]

either-some : (a b : Bool) (x y z : ℕ) → x ≤ y + z
    → cond (a || b) (suc x) x ≤ cond a (suc y) y + cond b (suc z) z
either-some true true x y z low = omega (arith, low)
either-some true false x y z low = omega (arith, low)
either-some false true x y z low = omega (arith, low)
either-some false false x y z low = low

filter-length : (p : ℕ → Bool) (x : ℕ) (xs : List ℕ)
    → length (filter p (x ∷ xs)) ≡ cond (p x) (suc (length (filter p xs))) (length (filter p xs))
filter-length p x xs = elim (cases_Bool (p x)) [
  | inl passes ↦ rw passes refl
  | inr fails ↦ rw fails refl
]

keeps-either : (p q : ℕ → Bool) (xs : List ℕ)
    → length (filter (λ m. p m || q m) xs) ≤ length (filter p xs) + length (filter q xs)
keeps-either p q [] = omega arith
keeps-either p q (x ∷ xs) =
    let either = filter-length (λ m. p m || q m) x xs in
    let first = filter-length p x xs in
    let second = filter-length q x xs in
    let low = either-some (p x) (q x) _ _ _ (keeps-either p q xs) in
    omega (arith, either, first, second, low)

-- ---- claims

-- numbers that claims have are no more than the claims
claimed-few : (s e a n : ℕ) (cs : List Claim)
    → length (filter (λ pn. list_any (is_claim_of s e pn) cs) (range_with_len a n)) ≤ length cs
claimed-few s e a n [] = by a n
  where
    by : (a n : ℕ) → length (filter (λ pn. false) (range_with_len a n)) ≤ 0
    by a zero = omega arith
    by a (suc n) = by (a + 1) n
claimed-few s e a n (c ∷ cs) =
    let either = keeps-either (λ pn. is_claim_of s e pn c)
    (λ pn. list_any (is_claim_of s e pn) cs) (range_with_len a n) in
    let one = keeps-one (λ pn. is_claim_of s e pn c) c.pn a n (λ m is. sym (eqb-true c.pn m
    (and_parts (c.epoch == e) (c.pn == m)
    (and_parts (c.station == s) ((c.epoch == e) && (c.pn == m)) is).1).1)) in
    let rest = claimed-few s e a n cs in
    omega (arith, either, one, rest)

unnot : (b : Bool) → b ≡ not (not b)
unnot true = refl
unnot false = refl

-- the next number is past the claims by the unused numbers at most
pub next-few : (settings : Settings) (s e : ℕ) (r : Run)
    → next settings s e r ≤ length (claims r) + unused settings s e r + 1
next-few settings s e r =
    let n = next settings s e r - 1 in
    let all = length-range_with_len 1 n in
    let both = length-filter_both (is_unused s e r)
    (λ pn. list_any (is_claim_of s e pn) (claims r))
    (λ pn. unnot (list_any (is_claim_of s e pn) (claims r))) (range_with_len 1 n) in
    let few = claimed-few s e 1 n (claims r) in
    let one = one-at-least settings s e r in
    omega (arith, all, both, few, one)

pub next-within : (settings : Settings) (s e : ℕ) (r : Run) → length (claims r) + 17 < 2 ^ 32
    → unused settings s e r ≤ 16 → next settings s e r ≤ last_number
next-within settings s e r low few = let next = next-few settings s e r in omega (arith, low, few, next)
