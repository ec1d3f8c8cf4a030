-- What is tried, one after the other.
use Rattle.std.proofs.Common.{◌≡◌, ◌≢◌, ◌∙◌, ℕ, zero, suc, ◌+◌, ◌-◌, ◌<◌, ◌≤◌, Bool, true, false, cond, List, [], ◌∷◌, ◌++◌, map, refl, sym, ap, arith}
use Rattle.std.specs.Prelude.{◌==◌}
use Rattle.std.specs.List.{list_any, range_with_len}
use Rattle.std.proofs.lemmas.Bool.{lt-ltb, le-ltb}
use Rattle.std.proofs.lemmas.List.FromFn.{map-range_with_len_more}
use Rattle.std.proofs.lemmas.List.Sums.{fold-append}
use Rattle.xpn_numbers.specs.Candidates.{above, and_above, below, with_all, with_new}

pub all_append : (highs more still : List ℕ) → with_all highs (more ++ still) ≡ with_all (with_all highs more) still
all_append highs more still = fold-append with_new highs more still

pub new_not : (highs : List ℕ) (high : ℕ) → list_any (λ h. h == high) highs ≡ true → with_new highs high ≡ highs
new_not highs high e = ap (λ (b : Bool). cond b highs (highs ++ high ∷ [])) e

pub new_is : (highs : List ℕ) (high : ℕ) → list_any (λ h. h == high) highs ≡ false → with_new highs high ≡ highs ++ high ∷ []
new_is highs high e = ap (λ (b : Bool). cond b highs (highs ++ high ∷ [])) e

pub above_some : (high : ℕ) → high + 1 < 4294967296 → above high ≡ (high + 1) ∷ []
above_some high lt = ap (λ (b : Bool). cond b ((high + 1) ∷ []) []) (lt-ltb (high + 1) 4294967296 lt)

pub above_none : (high : ℕ) → 4294967296 ≤ high + 1 → above high ≡ []
above_none high le = ap (λ (b : Bool). cond b ((high + 1) ∷ []) []) (le-ltb (high + 1) 4294967296 le)

pub below_some : (high : ℕ) → high ≢ 0 → below high ≡ (high - 1) ∷ []
below_some zero some = absurd (some refl)
below_some (suc high) some = ap (λ (n : ℕ). n ∷ []) (omega arith)

pub sscis_more : (n : ℕ) → map (λ k. k + 1) (range_with_len 0 (n + 1)) ≡ map (λ k. k + 1) (range_with_len 0 n) ++ (n + 1) ∷ []
sscis_more n = map-range_with_len_more (λ (k : ℕ). k + 1) 0 n n (omega arith)
