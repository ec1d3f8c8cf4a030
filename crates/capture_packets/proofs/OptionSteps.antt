-- Options are read one after another.
use Rattle.std.proofs.Common.{◌≡◌, ◌≢◌, ℕ, zero, suc, ◌+◌, ◌<◌, ◌≤◌, true, false, List, drop, length, length-drop, Some, None, refl, sym, ◌∙◌, arith}
use Rattle.std.specs.Prelude.{◌==◌, nat_lt}
use Rattle.std.proofs.lemmas.Bool.Decides.{nat_tests}
use Rattle.capture_file.specs.declared.order.Order.{Order}
use Rattle.capture_packets.specs.Numbers.{half_at, padded}
use Rattle.capture_packets.specs.Options.{ticks_by, ticks_in, ticks_within}

-- what the options that are left tell, beside these ticks, is what all tell
pub record HasTicks (order : Order) (all rest : List ℕ) (ticks : ℕ) : Type 0 where
  pub count : ℕ
  pub enough : length rest ≤ count
  pub same : ticks_within count order ticks rest ≡ ticks_in order all

pub all-left : (order : Order) (all : List ℕ) → HasTicks order all all 1000000
all-left order all = record { count = length all; enough = omega arith; same = refl }

no-rest : (n : ℕ) (order : Order) (ticks : ℕ) (rest : List ℕ) → length rest ≡ 0
    → ticks_within n order ticks rest ≡ Some ticks
no-rest zero order ticks rest none = refl
no-rest (suc n) order ticks rest none = rw none refl

pub at-end : (order : Order) (all rest : List ℕ) (ticks : ℕ) → HasTicks order all rest ticks → length rest ≡ 0
    → Some ticks ≡ ticks_in order all
at-end order all rest ticks t none = sym (no-rest t.count order ticks rest none) ∙ t.same

few : (n : ℕ) (order : Order) (ticks : ℕ) (rest : List ℕ) → length rest ≤ n → length rest ≢ 0 → length rest < 4
    → ticks_within n order ticks rest ≡ None
few zero order ticks rest enough some less = absurd (omega (arith, enough, some))
few (suc n) order ticks rest enough some less =
    let a : (length rest == 0) ≡ false = grind (arith, nat_tests) in
    let b : nat_lt (length rest) 4 ≡ true = grind (arith, nat_tests) in
    rw (a, b) refl

ended : (n : ℕ) (order : Order) (ticks : ℕ) (rest : List ℕ) → length rest ≤ n → length rest ≢ 0 → 4 ≤ length rest
    → half_at order 0 rest ≡ 0 → ticks_within n order ticks rest ≡ Some ticks
ended zero order ticks rest enough some head last = absurd (omega (arith, enough, some))
ended (suc n) order ticks rest enough some head last =
    let a : (length rest == 0) ≡ false = grind (arith, nat_tests) in
    let b : nat_lt (length rest) 4 ≡ false = grind (arith, nat_tests) in
    rw (a, b, last) refl

pub last-option : (order : Order) (all rest : List ℕ) (ticks : ℕ) → HasTicks order all rest ticks
    → length rest ≢ 0 → 4 ≤ length rest → half_at order 0 rest ≡ 0 → Some ticks ≡ ticks_in order all
last-option order all rest ticks t some head last =
    sym (ended t.count order ticks rest t.enough some head last) ∙ t.same

short : (n : ℕ) (order : Order) (ticks : ℕ) (rest : List ℕ) → length rest ≤ n → length rest ≢ 0 → 4 ≤ length rest
    → half_at order 0 rest ≢ 0 → length rest < 4 + padded (half_at order 2 rest)
    → ticks_within n order ticks rest ≡ None
short zero order ticks rest enough some head more less = absurd (omega (arith, enough, some))
short (suc n) order ticks rest enough some head more less =
    let a : (length rest == 0) ≡ false = grind (arith, nat_tests) in
    let b : nat_lt (length rest) 4 ≡ false = grind (arith, nat_tests) in
    let c : (half_at order 0 rest == 0) ≡ false = grind (arith, nat_tests) in
    let d : nat_lt (length rest) (4 + padded (half_at order 2 rest)) ≡ true = grind (arith, nat_tests) in
    rw (a, b, c, d) refl

bad : (n : ℕ) (order : Order) (ticks : ℕ) (rest : List ℕ) → length rest ≤ n → length rest ≢ 0 → 4 ≤ length rest
    → half_at order 0 rest ≢ 0 → 4 + padded (half_at order 2 rest) ≤ length rest
    → ticks_by order ticks rest ≡ None → ticks_within n order ticks rest ≡ None
bad zero order ticks rest enough some head more whole is = absurd (omega (arith, enough, some))
bad (suc n) order ticks rest enough some head more whole is =
    let a : (length rest == 0) ≡ false = grind (arith, nat_tests) in
    let b : nat_lt (length rest) 4 ≡ false = grind (arith, nat_tests) in
    let c : (half_at order 0 rest == 0) ≡ false = grind (arith, nat_tests) in
    let d : nat_lt (length rest) (4 + padded (half_at order 2 rest)) ≡ false = grind (arith, nat_tests) in
    rw (a, b, c, d, is) refl

later : (n : ℕ) (order : Order) (ticks next : ℕ) (all rest : List ℕ) → length rest ≤ n → length rest ≢ 0
    → 4 ≤ length rest → half_at order 0 rest ≢ 0 → 4 + padded (half_at order 2 rest) ≤ length rest
    → ticks_by order ticks rest ≡ Some next → ticks_within n order ticks rest ≡ ticks_in order all
    → HasTicks order all (drop (4 + padded (half_at order 2 rest)) rest) next
later zero order ticks next all rest enough some head more whole is same = absurd (omega (arith, enough, some))
later (suc n) order ticks next all rest enough some head more whole is same =
    let a : (length rest == 0) ≡ false = grind (arith, nat_tests) in
    let b : nat_lt (length rest) 4 ≡ false = grind (arith, nat_tests) in
    let c : (half_at order 0 rest == 0) ≡ false = grind (arith, nat_tests) in
    let d : nat_lt (length rest) (4 + padded (half_at order 2 rest)) ≡ false = grind (arith, nat_tests) in
    record {
      count = n;
      enough = let l = length-drop (4 + padded (half_at order 2 rest)) rest in omega (arith, l, enough, whole);
      same = rw (a, b, c, d, is) at same;
    }

pub next-option : (order : Order) (all rest : List ℕ) (ticks next : ℕ) → HasTicks order all rest ticks
    → length rest ≢ 0 → 4 ≤ length rest → half_at order 0 rest ≢ 0
    → 4 + padded (half_at order 2 rest) ≤ length rest → ticks_by order ticks rest ≡ Some next
    → HasTicks order all (drop (4 + padded (half_at order 2 rest)) rest) next
next-option order all rest ticks next t some head more whole is =
    later t.count order ticks next all rest t.enough some head more whole is t.same
