-- An act of two groups never stops for want of memory, since a recorder broke, or at a forged frame.
use Rattle.std.proofs.Common.{◌≡◌, ℕ, ◌+◌, List, [], ◌∷◌, ◌++◌, Bool, true, false, cond, Option, Some, None}
use Rattle.std.proofs.Common.{inl, inr, subst}
use Rattle.std.specs.Prelude.{◌⊎◌, option_map, option_and_then}
use Rattle.std.specs.Option.{option_or}
use Rattle.lan_base.specs.declared.frame.UserFrame.{UserFrame}
use Rattle.lan_base.specs.declared.suite.Suite.{Suite}
use Rattle.lan_core.specs.declared.event.Event.{Event}
use Rattle.lan_core.specs.declared.settings.Settings.{Settings}
use Rattle.lan_core.specs.declared.stop.Stop.{Stop}
use Rattle.lan_core.specs.declared.stop.Stop.TheVariants as stops
use Rattle.lan_core.specs.declared.stop.Which.{Which}
use Rattle.lan_core.specs.Run.{Run, Happening}
use Rattle.lan_core.specs.Stops.{is_spent, passed, stop_of_draw, drawn_before, draws_in}
use Rattle.cak_roll.specs.declared.event.GroupNumber.TheVariants.{First, Second}
use Rattle.cak_roll.specs.declared.event.TwinEvent.{TwinEvent}
use Rattle.cak_roll.specs.Twin.{Pair, Twin, TwinHappening, run_of, merged, events_in}
use Rattle.cak_roll.specs.Stepping.{Supply, behind, performed, shown, stop_after, part_stop}
use Rattle.cak_roll.specs.Stepping.{first_draws, twin_draws, first_part, first_stop_of}
use Rattle.cak_roll.specs.Stepping.{second_stop_of, twin_stop, happening}
use Rattle.trace_acts.specs.declared.halt.Halt.{Halt}
use Rattle.trace_acts.specs.declared.halt.Halt.TheVariants as halts
use Rattle.trace_acts.specs.Halts.{halt_of}
use Rattle.trace_acts.specs.Acts.{race}
use Rattle.twin_schedule.specs.World.{World, pair_of}
use Rattle.twin_schedule.specs.Acts.{Act, nothing, refuse, exceed, happen, change, seq, look, Course, Goes}
use Rattle.twin_schedule.specs.Acts.{Stops, answered, and_then, perform, supply}

-- ---- stops

-- no stop, or one that is not at a forged frame
abbrev IsOther : Option Stop → Type 0
IsOther None = Unit {0}
IsOther (Some (stops.Forged station)) = ⊥
IsOther (Some _) = Unit {0}

or-other : (a b : Option Stop) → IsOther a → IsOther b → IsOther (option_or a b)
or-other None b first later = later
or-other (Some stop) b first later = first

limit-other : (o : Option Which) → IsOther (option_map stops.Limit o)
limit-other None = tt
limit-other (Some which) = tt

draw-other : (o : Option ℕ) (second : ℕ)
    → IsOther (option_map (λ first. stops.RepeatedDraw first second) o)
draw-other None second = tt
draw-other (Some first) second = tt

then-other : {A : Type 0} (f : A → Option Stop) (o : Option A) → ((x : A) → IsOther (f x))
    → IsOther (option_and_then f o)
then-other f None other = tt
then-other f (Some x) other = other x

after-other : (suite : Suite) (r both : Run) (y : Happening) → IsOther (stop_after suite r both y)
after-other suite r both y =
    or-other (option_map stops.Limit (passed (y ∷ r))) (stop_of_draw suite both y)
    (limit-other (passed (y ∷ r)))
    (draw-other (drawn_before suite both y) (draws_in suite both + 1))

-- the stop of the last event of a part
abbrev last_stop : Suite → Settings → List UserFrame → Run → Run → Event → Supply → Run
    → Option Stop
last_stop suite settings users r both event nth ys =
    option_and_then (stop_after suite (ys ++ r) (ys ++ both))
    (shown settings users (ys ++ r) event nth)

part-other : (suite : Suite) (settings : Settings) (users : List UserFrame) (r both : Run)
    (events : List Event) (nth : Supply) → IsOther (part_stop suite settings users r both events nth)
unfolding part_stop
part-other suite settings users r both [] nth = tt
part-other suite settings users r both (event ∷ earlier) nth =
    or-other (part_stop suite settings users r both earlier nth)
    (option_and_then (last_stop suite settings users r both event nth)
    (performed settings users r earlier nth))
    (part-other suite settings users r both earlier nth)
    (then-other (last_stop suite settings users r both event nth)
    (performed settings users r earlier nth)
    (λ ys. then-other (stop_after suite (ys ++ r) (ys ++ both))
    (shown settings users (ys ++ r) event nth)
    (after-other suite (ys ++ r) (ys ++ both))))

first-other : (pair : Pair) (users : List UserFrame) (t : Twin) (event : TwinEvent) (nth : Supply)
    → IsOther (first_stop_of pair users t event nth)
first-other pair users t event nth =
    part-other pair.first.suite pair.first users (run_of First t) (merged t)
    (events_in pair First t event) nth

second-other : (pair : Pair) (users : List UserFrame) (t : Twin) (event : TwinEvent) (nth : Supply)
    → IsOther (second_stop_of pair users t event nth)
second-other pair users t event nth =
    then-other
    (λ first. part_stop pair.first.suite pair.second users (run_of Second t) (first ++ merged t)
    (events_in pair Second t event) (behind (first_draws pair t event) nth))
    (first_part pair users t event nth)
    (λ first. part-other pair.first.suite pair.second users (run_of Second t) (first ++ merged t)
    (events_in pair Second t event) (behind (first_draws pair t event) nth))

twin-other : (pair : Pair) (users : List UserFrame) (t : Twin) (event : TwinEvent) (nth : Supply)
    → IsOther (twin_stop pair users t event nth)
unfolding twin_stop
twin-other pair users t event nth = by (is_spent (twin_draws pair t event) nth) where
  by : (b : Bool)
      → IsOther (cond b (Some stops.DrawsSpent)
      (option_or (first_stop_of pair users t event nth) (second_stop_of pair users t event nth)))
  by true = tt
  by false =
      or-other (first_stop_of pair users t event nth) (second_stop_of pair users t event nth)
      (first-other pair users t event nth) (second-other pair users t event nth)

-- ---- acts

-- a reason for which an act may stop
abbrev IsReason : Halt → Type 0
IsReason halts.Memory = ⊥
IsReason halts.WriteFault = ⊥
IsReason (halts.Forged line) = ⊥
IsReason _ = Unit {0}

abbrev Stays : Course → Type 0
Stays (Goes w) = Unit {0}
Stays (Stops w halt) = IsReason halt

stop-reason : (line : ℕ) (stop : Stop) → IsOther (Some stop) → IsReason (halt_of line stop)
stop-reason line stops.DrawsSpent other = tt
stop-reason line (stops.Limit which) other = tt
stop-reason line (stops.RepeatedDraw first second) other = tt
stop-reason line (stops.Forged station) other = other

event-stays : (w : World) (event : TwinEvent) (stop : Option Stop) (x : Option TwinHappening)
    → IsOther stop → Stays (answered w event stop x)
event-stays w event (Some stop) x other = stop-reason w.kept.line stop other
event-stays w event None (Some x) other = tt
event-stays w event None None other = tt

then-stays : (out : Course) (g : World → Course) → Stays out → ((v : World) → Stays (g v))
    → Stays (and_then out g)
then-stays (Goes w) g first later = later w
then-stays (Stops w halt) g first later = first

stays : (act : Act) (w : World) → Stays (perform act w)
stays nothing w = tt
stays (refuse kind) w = tt
stays (exceed which) w = tt
stays (happen event) w =
    event-stays w event (twin_stop (pair_of w) w.kept.users w.run event (supply w))
    (happening (pair_of w) w.kept.users w.run event (supply w))
    (twin-other (pair_of w) w.kept.users w.run event (supply w))
stays (change f) w = tt
stays (seq f g) w = then-stays (perform f w) (λ v. perform g v) (stays f w) (λ v. stays g v)
stays (look f) w = stays (f w) w
stays (race none act) w = absurd none

pub never-broken : (act : Act) (w v : World) (halt : Halt) → perform act w ≡ Stops v halt
    → (halt ≡ halts.Memory) ⊎ (halt ≡ halts.WriteFault) → ⊥
never-broken act w v halt is (inl memory) =
    subst IsReason memory (subst Stays is (stays act w))
never-broken act w v halt is (inr broken) =
    subst IsReason broken (subst Stays is (stays act w))

pub never-forged : (act : Act) (w v : World) (line : ℕ) → perform act w ≡ Stops v (halts.Forged line)
    → ⊥
never-forged act w v line is = subst Stays is (stays act w)
