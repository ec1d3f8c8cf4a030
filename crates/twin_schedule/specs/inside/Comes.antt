-- Which acts can be performed in a world: each of their events may come where it is reached.
use Rattle.std.specs.Prelude.{◌≡◌, true, is_some}
use Rattle.cak_roll.specs.declared.event.TwinEvent.{TwinEvent}
use Rattle.cak_roll.specs.declared.event.TwinEvent.TheVariants as twins
use Rattle.cak_roll.specs.Twin.{MayComeTwin, Twin}
use Rattle.lan_core.specs.declared.stop.Which.{Which}
use Rattle.trace_acts.specs.Acts as acts
pub use Rattle.trace_acts.specs.Acts.{IsGoing}
use Rattle.twin_schedule.specs.Sound.{IsTidy}
use Rattle.twin_schedule.specs.World.{Kept, World}
use Rattle.twin_schedule.specs.Acts.{Act, rules}

-- an event may come: an adoption behind the second group
abbrev pub IsReady : World → TwinEvent → Type 0
IsReady w (twins.Adopt station) = is_some w.kept.second ≡ true
IsReady w _ = Unit {0}

abbrev pub asks : acts.Demands Twin Kept TwinEvent Which ⊥
asks = record {
  IsTidy = λ w. IsTidy w;
  MayCome = λ w event. MayComeTwin w.kept.users w.run event × IsReady w event;
  MayEnd = λ none w v. Unit {0};
}

-- an act can be performed in a world
abbrev pub Comes : Act → World → Type 0
Comes act w = acts.Comes rules asks act w
