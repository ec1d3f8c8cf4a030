-- Acts that leave the lines where they stand.
use Rattle.std.proofs.Common.{◌≡◌, List}
use Rattle.std.proofs.Common.{Option, Some, None, refl, sym, ap, ◌∙◌}
use Rattle.std.specs.Prelude.{Result, Ok, Err}
use Rattle.lan_core.specs.declared.event.Event.{Event}
use Rattle.lan_core.specs.declared.fact.Fact.{Fact}
use Rattle.trace_acts.specs.declared.halt.Halt.{Halt}
use Rattle.trace_acts.specs.declared.halt.Kind.{Kind}
use Rattle.lan_schedule.specs.Races.{Excess}
use Rattle.lan_schedule.specs.World.{World, Kept}
use Rattle.lan_schedule.specs.Answers.{answer}
use Rattle.lan_schedule.specs.Acts.{Act, nothing, refuse, exceed, happen, change, seq, look, race}
use Rattle.lan_schedule.specs.Acts.{Course, Goes, Stops, perform, shown, and_then, world_after}
use Rattle.lan_schedule.specs.Lines.{unless_exceeded, unless_refused}

-- no part of an act says where the lines stand or which races were run, and none is a race
abbrev pub IsStill : Act → Type 0
IsStill nothing = Unit {0}
IsStill (refuse kind) = Unit {0}
IsStill (exceed excess) = Unit {0}
IsStill (happen event) = Unit {0}
IsStill (change f) = (kept : Kept)
    → ((f kept).phase ≡ kept.phase) × ((f kept).races ≡ kept.races)
IsStill (seq first later) = IsStill first × IsStill later
IsStill (look act) = (w : World) → IsStill (act w)
IsStill (race workers control) = ⊥

-- the lines stand in a world where they did in another
abbrev IsThere : World → World → Type 0
IsThere w v = v.kept.phase ≡ w.kept.phase

goes-there : (w v : World) → Goes w ≡ Goes v → IsThere w v
goes-there w v e = let same : w ≡ v = cc in ap (λ (u : World). u.kept.phase) (sym same)

shown-there : (w v : World) (event : Event) (r : Result (List Fact) Halt)
    → shown w event r ≡ Goes v → IsThere w v
shown-there w v event (Ok facts) e = goes-there (world_after w event facts) v e
shown-there w v event (Err halt) e = absurd (let bad : Stops w halt ≡ Goes v = e in cc)

both-there : (w v : World) (out : Course) (g : World → Course)
    → ((u : World) → out ≡ Goes u → IsThere w u)
    → ((u : World) → g u ≡ Goes v → IsThere u v) → and_then out g ≡ Goes v → IsThere w v
both-there w v (Goes u) g first second e = second u e ∙ first u refl
both-there w v (Stops u halt) g first second e = absurd (cc e)

pub stays : (act : Act) (w v : World) → IsStill act → perform act w ≡ Goes v
    → v.kept.phase ≡ w.kept.phase
stays nothing w v still e = goes-there w v e
stays (refuse kind) w v still e = absurd (cc e)
stays (exceed excess) w v still e = absurd (cc e)
stays (happen event) w v still e = shown-there w v event (answer w event) e
stays (change f) w v still e = goes-there (record w { kept = f w.kept }) v e ∙ (still w.kept).0
stays (seq f g) w v still e = both-there w v (perform f w) (λ u. perform g u)
    (λ u first. stays f w u still.0 first) (λ u second. stays g u v still.1 second) e
stays (look f) w v still e = stays (f w) w v (still w) e
stays (race workers control) w v still e = absurd still

-- ---- acts that may be refused
pub still-refused : (o : Option Kind) (act : Act) → IsStill act → IsStill (unless_refused o act)
still-refused None act still = still
still-refused (Some kind) act still = tt

pub still-exceeded : (o : Option Excess) (act : Act) → IsStill act → IsStill (unless_exceeded o act)
still-exceeded None act still = still
still-exceeded (Some excess) act still = tt
