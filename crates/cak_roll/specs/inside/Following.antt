-- What an event does to the members.
use Rattle.std.specs.Prelude.{[], ◌∷◌, ◌++◌}
use Rattle.cak_roll.specs.declared.event.TwinEvent.{TwinEvent}
use Rattle.cak_roll.specs.declared.event.TwinEvent.TheVariants as twins
use Rattle.cak_roll.specs.Standing.{Members}

abbrev pub with_event : Members → TwinEvent → Members
with_event m (twins.Start name sci priority) =
    record m {
      stations = m.stations ++ record { name = name; sci = sci; priority = priority } ∷ [];
    }
with_event m (twins.Adopt station) = record m { adopters = m.adopters ++ station ∷ [] }
with_event m (twins.Leave station group) =
    record m { leavers = m.leavers ++ record { station = station; group = group } ∷ [] }
with_event m _ = m
