use Rattle.std.proofs.Common.{◌≡◌, ◌++◌, map}
use Rattle.rollover_notes.specs.inside.Listing.{report_at}
use Rattle.rollover_notes.proofs.report.list_reports.Given as goal

abbrev pub invariant-loop-at : goal.invariant-loop-at
invariant-loop-at l =
    l.told.items ++ map report_at l.at-iterator ≡ map report_at l.fn.reports.packets.entries
