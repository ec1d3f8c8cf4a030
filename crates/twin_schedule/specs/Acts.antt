-- What can be performed, and what performing it leaves (this profile's own rule).
use Rattle.std.specs.Prelude.{◌+◌, ◌∷◌, Option, Some, None}
use Rattle.lan_core.specs.declared.stop.Stop.{Stop}
use Rattle.lan_core.specs.declared.stop.Which.{Which}
use Rattle.cak_roll.specs.declared.event.TwinEvent.{TwinEvent}
use Rattle.cak_roll.specs.Twin.{Twin, TwinHappening}
use Rattle.cak_roll.specs.Stepping.{Supply, happening, twin_stop, twin_draws}
use Rattle.trace_acts.specs.Acts as acts
pub use Rattle.trace_acts.specs.Acts.{nothing, refuse, exceed, happen, change, seq, look, Goes, Stops}
pub use Rattle.trace_acts.specs.Acts.{and_then, each, span, times, unless, world_of}
use Rattle.trace_acts.specs.Settings.{rule_of}
use Rattle.trace_acts.specs.Supply.{draws_after}
use Rattle.trace_acts.specs.Halts.{halt_of}
use Rattle.twin_schedule.specs.World.{World, Kept, pair_of}

-- what an act leaves
abbrev pub Course : Type 0
Course = acts.Course World

-- the draws that are still to come: one supply for both groups
abbrev pub supply : World → Supply
supply w = draws_after (rule_of w.kept.chosen) w.kept.taken

-- the world after an event, with what it was in each group
abbrev pub world_after : World → TwinEvent → TwinHappening → World
world_after w event x = record {
  run = x ∷ w.run;
  kept = record w.kept { taken = w.kept.taken + twin_draws (pair_of w) w.run event };
}

-- an event stops the trace, or shows what it is in each group; one that may come shows something
abbrev pub answered : World → TwinEvent → Option Stop → Option TwinHappening → Course
answered w event (Some stop) shown = Stops w (halt_of w.kept.line stop)
answered w event None (Some x) = Goes (world_after w event x)
answered w event None None = Goes w

-- what an event leaves
abbrev pub happens : World → TwinEvent → Course
happens w event =
    answered w event (twin_stop (pair_of w) w.kept.users w.run event (supply w))
    (happening (pair_of w) w.kept.users w.run event (supply w))

-- what can be performed
abbrev pub Act : Type 0
Act = acts.Act Twin Kept TwinEvent Which ⊥

-- how acts are performed: beside none does anything go on
abbrev pub rules : acts.Rules Twin Kept TwinEvent Which ⊥
rules = record {
  line = λ kept. kept.line;
  limit = λ which. which;
  happens = happens;
  begins = λ none w. w;
  beside = λ none w out. out;
}

abbrev pub perform : Act → World → Course
perform act w = acts.perform rules act w
