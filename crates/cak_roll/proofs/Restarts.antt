-- Where an event is one in both groups, it is a restart: each part takes one draw.
use Rattle.std.proofs.Common.{◌≡◌, ◌+◌, ◌++◌, ◌<◌, ℕ, zero, suc, Bool, true, false, List}
use Rattle.std.proofs.Common.{[], ◌∷◌, cond, Some, refl, ap, ◌∙◌, arith}
use Rattle.std.proofs.Math.Path.{fun_ext}
use Rattle.std.specs.Prelude.{is_none, option_map, option_and_then}
use Rattle.std.specs.Option.{option_or}
use Rattle.lan_base.specs.declared.frame.UserFrame.{UserFrame}
use Rattle.lan_core.specs.declared.event.Event.{Event}
use Rattle.lan_core.specs.declared.event.Event.TheVariants as events
use Rattle.lan_core.specs.declared.settings.Settings.{Settings}
use Rattle.lan_core.specs.declared.stop.Stop.TheVariants.{DrawsSpent}
use Rattle.lan_core.specs.Run.{Run, happened}
use Rattle.lan_core.proofs.Public.{needed-draws-count}
use Rattle.cak_roll.specs.declared.event.GroupNumber.{GroupNumber}
use Rattle.cak_roll.specs.declared.event.GroupNumber.TheVariants.{First, Second}
use Rattle.cak_roll.specs.declared.event.TwinEvent.{TwinEvent}
use Rattle.cak_roll.specs.declared.event.TwinEvent.TheVariants as twins
use Rattle.cak_roll.specs.Twin.{Pair, Twin, run_of, merged, events_in, only, same_group, sent_as}
use Rattle.cak_roll.specs.Twin.{takes_part, place_in, next_in, claimed_in, carrier}
use Rattle.cak_roll.specs.Stepping.{Supply, behind, shown, performed, draws_for, stop_after, part_stop}
use Rattle.cak_roll.specs.Stepping.{first_draws, second_draws, twin_draws, first_part, second_part}
use Rattle.cak_roll.specs.Stepping.{in_groups, happening}
use Rattle.cak_roll.specs.inside.Sides.{events_stop}
use Rattle.cak_roll.specs.inside.Turns.{turn_stop}

-- one restart
abbrev pub IsRestart : List Event → Type 0
IsRestart es = (s : ℕ) × (es ≡ events.Restart s ∷ [])

only-there : (b : Bool) (e : Event) → (only b (e ∷ []) ≡ [] → ⊥) → only b (e ∷ []) ≡ e ∷ []
only-there true e there = refl
only-there false e there = absurd (there refl)

not-both : (g : GroupNumber) (es fs : List Event) → (only (same_group g First) es ≡ [] → ⊥)
    → (only (same_group g Second) fs ≡ [] → ⊥) → ⊥
not-both First es fs one two = two refl
not-both Second es fs one two = one refl

pub both-restart : (pair : Pair) (t : Twin) (event : TwinEvent)
    → (events_in pair First t event ≡ [] → ⊥) → (events_in pair Second t event ≡ [] → ⊥)
    → IsRestart (events_in pair First t event) × IsRestart (events_in pair Second t event)
both-restart pair t (twins.Start name sci priority) one two = absurd (two refl)
both-restart pair t (twins.Adopt station) one two = absurd (one refl)
both-restart pair t (twins.Leave station group) one two = absurd (one refl)
both-restart pair t (twins.Tick station group) one two =
    absurd (not-both group
    (events.Tick (place_in First station t) (next_in pair First station t) ∷ [])
    (events.Tick (place_in Second station t) (next_in pair Second station t) ∷ []) one two)
both-restart pair t (twins.Deliver group frame station) one two =
    absurd (not-both group (events.Deliver frame (place_in First station t) ∷ [])
    (events.Deliver frame (place_in Second station t) ∷ []) one two)
both-restart pair t (twins.Restart station) one two = (
  (
    place_in First station t,
    only-there (takes_part First station t) (events.Restart (place_in First station t)) one,
  ),
  (
    place_in Second station t,
    only-there (takes_part Second station t) (events.Restart (place_in Second station t)) two,
  ),
)
both-restart pair t (twins.Send station user) one two =
    absurd (not-both (carrier pair station t)
    (sent_as (place_in First station t) user (claimed_in pair First station t))
    (sent_as (place_in Second station t) user (claimed_in pair Second station t)) one two)

-- ---- supplies that agree on two draws

agree-shown : (settings : Settings) (users : List UserFrame) (r : Run) (s : ℕ)
    (nth other : Supply) → nth 0 ≡ other 0
    → shown settings users r (events.Restart s) nth ≡ shown settings users r (events.Restart s) other
agree-shown settings users r s nth other agree =
    ap (option_map (λ facts. happened (events.Restart s) facts))
    (needed-draws-count settings users r (events.Restart s) nth other at)
  where
    at : (place : ℕ) → place < 1 → nth place ≡ other place
    at zero few = agree
    at (suc place) few = absurd (omega (arith, few))

pub agree-performed : (settings : Settings) (users : List UserFrame) (r : Run) (es : List Event)
    (nth other : Supply) → IsRestart es → nth 0 ≡ other 0
    → performed settings users r es nth ≡ performed settings users r es other
unfolding performed
agree-performed settings users r es nth other (s, is) agree =
    rw is (ap (option_map (λ y. y ∷ [])) (agree-shown settings users r s nth other agree))

pub agree-stop : (settings : Settings) (users : List UserFrame) (r both : Run) (es : List Event)
    (nth other : Supply) → IsRestart es → nth 0 ≡ other 0
    → events_stop settings users r both es nth ≡ events_stop settings users r both es other
unfolding performed part_stop
agree-stop settings users r both es nth other (s, is) agree =
    rw is
    (ap (λ o. cond (is_none o) (Some DrawsSpent)
    (option_and_then (stop_after settings.suite r both)
    (shown settings users r (events.Restart s) nth))) agree
    ∙ ap (λ o. cond (is_none (other 0)) (Some DrawsSpent)
    (option_and_then (stop_after settings.suite r both) o))
    (agree-shown settings users r s nth other agree))

restart-draws : (settings : Settings) (r : Run) (es : List Event) → IsRestart es
    → draws_for settings r es ≡ 1
restart-draws settings r es (s, is) = rw is refl

module _ (pair : Pair) (users : List UserFrame) (t : Twin) (event : TwinEvent)
    (nth other : Supply) (one : IsRestart (events_in pair First t event))
    (two : IsRestart (events_in pair Second t event)) (agree : (k : ℕ) → k < 2 → nth k ≡ other k)
  where
    first : first_draws pair t event ≡ 1
    first = restart-draws pair.first (run_of First t) (events_in pair First t event) one

    second : second_draws pair t event ≡ 1
    second = restart-draws pair.second (run_of Second t) (events_in pair Second t event) two

    pub two-draws : twin_draws pair t event ≡ 2
    two-draws = omega (arith, first, second)

    next-agrees : behind (first_draws pair t event) nth 0 ≡ behind (first_draws pair t event) other 0
    next-agrees = agree (0 + first_draws pair t event) (omega (arith, first))

    pub agree-happening : happening pair users t event nth ≡ happening pair users t event other
    agree-happening =
        ap (option_and_then
        (λ first. option_map (in_groups event first) (second_part pair users t event nth)))
        (agree-performed pair.first users (run_of First t) (events_in pair First t event) nth other one
        (agree 0 (omega arith)))
        ∙ ap (λ o. option_and_then (λ first. option_map (in_groups event first) o)
        (first_part pair users t event other))
        (agree-performed pair.second users (run_of Second t) (events_in pair Second t event)
        (behind (first_draws pair t event) nth) (behind (first_draws pair t event) other) two
        next-agrees)

    pub agree-turn : turn_stop pair users t event nth ≡ turn_stop pair users t event other
    agree-turn =
        ap (λ o. option_or o (option_and_then
        (λ first. events_stop pair.second users (run_of Second t) (first ++ merged t)
        (events_in pair Second t event) (behind (first_draws pair t event) nth))
        (first_part pair users t event nth)))
        (agree-stop pair.first users (run_of First t) (merged t) (events_in pair First t event) nth
        other one (agree 0 (omega arith)))
        ∙ ap (λ o. option_or (events_stop pair.first users (run_of First t) (merged t)
        (events_in pair First t event) other) (option_and_then
        (λ first. events_stop pair.second users (run_of Second t) (first ++ merged t)
        (events_in pair Second t event) (behind (first_draws pair t event) nth)) o))
        (agree-performed pair.first users (run_of First t) (events_in pair First t event) nth other one
        (agree 0 (omega arith)))
        ∙ ap (λ f. option_or (events_stop pair.first users (run_of First t) (merged t)
        (events_in pair First t event) other) (option_and_then f (first_part pair users t event other)))
        (fun_ext (λ first.
        agree-stop pair.second users (run_of Second t) (first ++ merged t)
        (events_in pair Second t event) (behind (first_draws pair t event) nth)
        (behind (first_draws pair t event) other) two next-agrees))
