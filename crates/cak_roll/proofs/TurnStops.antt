-- One after the other, parts of an event meet the stop that comes first where the draws of both come
-- before: at most one of them draws, or the draws of both are there.
use Rattle.std.proofs.Common.{◌≡◌, ◌⊎◌, inl, inr, ◌+◌, ◌-◌, ◌==◌, ◌++◌, ℕ, false, List}
use Rattle.std.proofs.Common.{[], ◌∷◌, cond, Option, Some, None, refl, sym, ap, ◌∙◌, subst, arith}
use Rattle.std.specs.Prelude.{is_none, option_map, option_and_then}
use Rattle.std.specs.Option.{option_or}
use Rattle.lan_base.specs.declared.frame.UserFrame.{UserFrame}
use Rattle.lan_base.specs.declared.suite.Suite.{Suite}
use Rattle.lan_core.specs.declared.event.Event.{Event}
use Rattle.lan_core.specs.declared.settings.Settings.{Settings}
use Rattle.lan_core.specs.declared.stop.Stop.{Stop}
use Rattle.lan_core.specs.declared.stop.Stop.TheVariants as stops
use Rattle.lan_core.specs.declared.stop.Which.{Which}
use Rattle.lan_core.specs.Run.{Run, Happening}
use Rattle.lan_core.specs.Stops.{is_spent, passed, stop_of_draw}
use Rattle.lan_core.specs.Unstopped.{AreDraws}
use Rattle.lan_core.proofs.Public.{mapped, chained}
use Rattle.cak_roll.specs.declared.event.GroupNumber.TheVariants.{First, Second}
use Rattle.cak_roll.specs.declared.event.TwinEvent.{TwinEvent}
use Rattle.cak_roll.specs.Twin.{Pair, Twin, run_of, merged, events_in}
use Rattle.cak_roll.specs.Stepping.{Supply, behind, shown, performed, draws_for, stop_after, part_stop}
use Rattle.cak_roll.specs.Stepping.{first_draws, second_draws, twin_draws, first_part}
use Rattle.cak_roll.specs.Stepping.{twin_stop}
use Rattle.cak_roll.specs.Standing.{AreTraced}
use Rattle.cak_roll.specs.inside.Sides.{unless_spent, events_stop}
use Rattle.cak_roll.specs.inside.Turns.{turn_stop}
use Rattle.cak_roll.proofs.Supplies.{enough-first, enough-second}
use Rattle.cak_roll.proofs.Traced.{traced-beside, neither}

-- ---- the other group

no-limit : (o : Option Which) (p : Option Stop)
    → option_or (option_map stops.Limit o) p ≡ None → p ≡ None
no-limit None p none = none
no-limit (Some w) p none = absurd (cc none)

some-same : {A : Type 0} {a b : A} → Some a ≡ Some b → a ≡ b
some-same e = cc e

-- a part that nothing stops repeats nothing of the other group
pub traced-beside-part : (settings : Settings) (users : List UserFrame) (r both : Run)
    (es : List Event) (nth : Supply) (ys other : Run) (draws : List ℕ)
    → performed settings users r es nth ≡ Some ys
    → part_stop settings.suite settings users r both es nth ≡ None
    → AreTraced settings.suite other both draws → AreTraced settings.suite other (ys ++ both) draws
unfolding performed part_stop
traced-beside-part settings users r both [] nth ys other draws there none traced =
    subst (λ ws. AreTraced settings.suite other (ws ++ both) draws) (some-same there) traced
traced-beside-part settings users r both (e ∷ es) nth ys other draws there none traced =
    let c = chained (λ xs. option_map (λ y. y ∷ xs) (shown settings users (xs ++ r) e nth))
    (performed settings users r es nth) ys there in
    let xs : Run = c.0 in
    let m = mapped (λ (y : Happening). y ∷ xs) (shown settings users (xs ++ r) e nth) ys c.2 in
    let y : Happening = m.0 in
    let parts = neither (part_stop settings.suite settings users r both es nth)
    (option_and_then
    (λ ws. option_and_then (stop_after settings.suite (ws ++ r) (ws ++ both))
    (shown settings users (ws ++ r) e nth)) (performed settings users r es nth)) none in
    let last : stop_after settings.suite (xs ++ r) (xs ++ both) y ≡ None =
    sym (ap (option_and_then
    (λ ws. option_and_then (stop_after settings.suite (ws ++ r) (ws ++ both))
    (shown settings users (ws ++ r) e nth))) c.1
    ∙ ap (option_and_then (stop_after settings.suite (xs ++ r) (xs ++ both))) m.1) ∙ parts.1 in
    subst (λ ws. AreTraced settings.suite other (ws ++ both) draws) m.2
    (traced-beside settings.suite y other (xs ++ both) draws
    (no-limit (passed (y ∷ (xs ++ r))) (stop_of_draw settings.suite (xs ++ both) y) last)
    (traced-beside-part settings users r both es nth xs other draws c.1 parts.0 traced))

-- ---- stops

-- the parts draw in time
abbrev pub TakeInTime : Pair → Twin → TwinEvent → Supply → Type 0
TakeInTime pair t event nth =
    (events_in pair First t event ≡ []) ⊎ ((events_in pair Second t event ≡ [])
    ⊎ (is_spent (twin_draws pair t event) nth ≡ false))

or-none : {A : Type 0} (o : Option A) → option_or o None ≡ o
or-none None = refl
or-none (Some a) = refl

then-none : {A B : Type 0} (f : A → Option B) → ((a : A) → f a ≡ None) → (o : Option A)
    → option_and_then f o ≡ None
then-none f none None = refl
then-none f none (Some a) = none a

spent-behind : (b : ℕ) (nth : Supply) → is_spent b (behind 0 nth) ≡ is_spent (0 + b) nth
spent-behind b nth =
    let same : (b - 1) + 0 ≡ (0 + b) - 1 = omega arith in
    let count : b ≡ 0 + b = omega arith in
    ap (λ i. cond (b == 0) false (is_none (nth i))) same
    ∙ ap (λ n. cond (n == 0) false (is_none (nth ((0 + b) - 1)))) count

module _ (pair : Pair) (users : List UserFrame) (t : Twin) (event : TwinEvent) (nth : Supply)
    (suites : pair.second.suite ≡ pair.first.suite) where
  -- the part in the second group, judged by the suite of either
  abbrev second_of : Suite → List Event → ℕ → Run → Option Stop
  second_of suite es a first =
      part_stop suite pair.second users (run_of Second t) (first ++ merged t) es (behind a nth)

  by-parts : (es fs : List Event)
      → (es ≡ []) ⊎ ((fs ≡ [])
      ⊎ (is_spent (draws_for pair.first (run_of First t) es
      + draws_for pair.second (run_of Second t) fs) nth ≡ false))
      → AreDraws nth
      → option_or
      (unless_spent (draws_for pair.first (run_of First t) es) nth
      (part_stop pair.first.suite pair.first users (run_of First t) (merged t) es nth))
      (option_and_then
      (λ first. unless_spent (draws_for pair.second (run_of Second t) fs)
      (behind (draws_for pair.first (run_of First t) es) nth)
      (second_of pair.first.suite fs (draws_for pair.first (run_of First t) es) first))
      (performed pair.first users (run_of First t) es nth))
      ≡ unless_spent (draws_for pair.first (run_of First t) es
      + draws_for pair.second (run_of Second t) fs) nth
      (option_or (part_stop pair.first.suite pair.first users (run_of First t) (merged t) es nth)
      (option_and_then (second_of pair.first.suite fs (draws_for pair.first (run_of First t) es))
      (performed pair.first users (run_of First t) es nth)))
  unfolding performed part_stop
  by-parts es fs (inl none) draws = rw none
      (ap (λ b. cond b (Some stops.DrawsSpent) (second_of pair.first.suite fs 0 []))
      (spent-behind (draws_for pair.second (run_of Second t) fs) nth))
  by-parts es fs (inr (inl none)) draws = rw none (
      let a = draws_for pair.first (run_of First t) es in
      let stop = part_stop pair.first.suite pair.first users (run_of First t) (merged t) es nth in
      let part = performed pair.first users (run_of First t) es nth in
      let count : a + 0 ≡ a = omega arith in
      let rests = then-none (second_of pair.first.suite [] a) (λ first. refl) part in
      ap (option_or (unless_spent a nth stop)) rests
      ∙ or-none (unless_spent a nth stop)
      ∙ ap (λ o. unless_spent a nth o) (sym (ap (option_or stop) rests ∙ or-none stop))
      ∙ ap (λ n. unless_spent n nth (option_or stop
      (option_and_then (second_of pair.first.suite [] a) part))) (sym count))
  by-parts es fs (inr (inr enough)) draws =
      let a = draws_for pair.first (run_of First t) es in
      let b = draws_for pair.second (run_of Second t) fs in
      let first = enough-first nth draws a b enough in
      let second = enough-second nth a b enough in
      rw (first, second, enough) refl

  pub turn-stops : AreDraws nth → TakeInTime pair t event nth
      → turn_stop pair users t event nth ≡ twin_stop pair users t event nth
  unfolding twin_stop
  turn-stops draws time =
      ap (λ suite. option_or
      (events_stop pair.first users (run_of First t) (merged t) (events_in pair First t event) nth)
      (option_and_then
      (λ first. unless_spent (second_draws pair t event) (behind (first_draws pair t event) nth)
      (second_of suite (events_in pair Second t event) (first_draws pair t event) first))
      (first_part pair users t event nth))) suites
      ∙ by-parts (events_in pair First t event) (events_in pair Second t event) time draws
