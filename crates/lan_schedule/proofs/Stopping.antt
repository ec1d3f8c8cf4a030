-- An act never stops for want of memory, or since a recorder broke.
use Rattle.std.proofs.Common.{◌≡◌, ℕ, zero, suc, List, Option, Some, None, inl, inr, subst}
use Rattle.std.specs.Prelude.{◌⊎◌}
use Rattle.lan_core.specs.declared.event.Event.{Event}
use Rattle.lan_core.specs.declared.event.Event.TheVariants.{Emit}
use Rattle.lan_core.specs.declared.stop.Stop.{Stop}
use Rattle.lan_core.specs.declared.stop.Stop.TheVariants as stops
use Rattle.lan_core.specs.Stops.{first_stop}
use Rattle.trace_acts.specs.declared.halt.Halt.{Halt}
use Rattle.trace_acts.specs.declared.halt.Halt.TheVariants as halts
use Rattle.trace_acts.specs.Halts.{halt_of}
use Rattle.lan_schedule.specs.Races.{Worker}
use Rattle.lan_schedule.specs.World.{World, settings}
use Rattle.lan_schedule.specs.Answers.{supply, answered}
use Rattle.lan_schedule.specs.Acts.{Act, nothing, refuse, exceed, happen, change, seq, look, race}
use Rattle.lan_schedule.specs.Acts.{Course, Goes, Stops, shown, and_then, perform, begun_race}
use Rattle.lan_schedule.specs.Acts.{emitting, beside}

-- a reason for which an act may stop
abbrev IsReason : Halt → Type 0
IsReason halts.Memory = ⊥
IsReason halts.WriteFault = ⊥
IsReason _ = Unit {0}

abbrev Stays : Course → Type 0
Stays (Goes w) = Unit {0}
Stays (Stops w halt) = IsReason halt

stop-reason : (line : ℕ) (stop : Stop) → IsReason (halt_of line stop)
stop-reason line stops.DrawsSpent = tt
stop-reason line (stops.Limit which) = tt
stop-reason line (stops.RepeatedDraw first second) = tt
stop-reason line (stops.Forged station) = tt

event-stays : (w : World) (event : Event) (o : Option Stop)
    → Stays (shown w event (answered w event o))
event-stays w event None = tt
event-stays w event (Some stop) = stop-reason w.kept.line stop

then-stays : (out : Course) (g : World → Course) → Stays out → ((v : World) → Stays (g v))
    → Stays (and_then out g)
then-stays (Goes w) g first later = later w
then-stays (Stops w halt) g first later = first

emitting-stays : (count : ℕ) (w : World) → Stays (emitting count w)
emitting-stays zero w = tt
emitting-stays (suc count) w =
    then-stays _ (λ v. emitting count v)
    (event-stays w Emit (first_stop (settings w) w.kept.users w.run Emit (supply w)))
    (λ v. emitting-stays count v)

beside-stays : (workers : List Worker) (w : World) (out : Course) → Stays out
    → Stays (beside workers w out)
beside-stays workers w (Goes v) stays = emitting-stays _ _
beside-stays workers w (Stops v halt) stays = stays

stays : (act : Act) (w : World) → Stays (perform act w)
stays nothing w = tt
stays (refuse kind) w = tt
stays (exceed excess) w = tt
stays (happen event) w =
    event-stays w event (first_stop (settings w) w.kept.users w.run event (supply w))
stays (change f) w = tt
stays (seq f g) w = then-stays (perform f w) (λ v. perform g v) (stays f w) (λ v. stays g v)
stays (look f) w = stays (f w) w
stays (race workers control) w =
    beside-stays workers w (perform control (begun_race workers w))
    (stays control (begun_race workers w))

pub never-broken : (act : Act) (w v : World) (halt : Halt) → perform act w ≡ Stops v halt
    → (halt ≡ halts.Memory) ⊎ (halt ≡ halts.WriteFault) → ⊥
never-broken act w v halt is (inl memory) =
    subst IsReason memory (subst Stays is (stays act w))
never-broken act w v halt is (inr broken) =
    subst IsReason broken (subst Stays is (stays act w))
