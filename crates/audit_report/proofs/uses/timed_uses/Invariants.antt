use Rattle.std.proofs.Common.{◌≡◌, List, map, take}
use Rattle.rollover_notes.specs.Events.{Event}
use Rattle.rollover_notes.specs.Standing.{StandsFor}
use Rattle.audit_report.specs.Uses.{timed}
use Rattle.audit_report.proofs.uses.timed_uses.Given as goal

abbrev pub invariant-loop-each : goal.invariant-loop-each
invariant-loop-each l =
    (h : List Event) → StandsFor h l.notes → l.told.items ≡ map (timed h) (take l.each-index l.uses)
