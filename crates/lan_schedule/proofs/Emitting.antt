-- What waits is emitted: the emissions behind a race are as many emissions one after the other.
use Rattle.std.proofs.Common.{◌≡◌, ℕ, zero, suc, refl, ap}
use Rattle.lan_core.specs.declared.event.Event.TheVariants.{Emit}
use Rattle.lan_schedule.specs.World.{World}
use Rattle.lan_schedule.specs.Answers.{answer}
use Rattle.lan_schedule.specs.Acts.{Course, and_then, emitting, happen, perform, shown, span, times}

emitting-span : (count i : ℕ) (w : World)
    → emitting count w ≡ perform (span (λ _. happen Emit) i count) w
emitting-span zero i w = refl
emitting-span (suc count) i w =
    ap (λ (g : World → Course). and_then (shown w Emit (answer w Emit)) g)
    (λ k v. emitting-span count (suc i) v k)

pub emitting-times : (count : ℕ) (w : World)
    → emitting count w ≡ perform (times count (happen Emit)) w
emitting-times count w = emitting-span count 0 w
