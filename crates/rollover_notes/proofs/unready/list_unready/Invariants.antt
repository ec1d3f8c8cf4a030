use Rattle.std.proofs.Common.{◌≡◌, ◌++◌, map}
use Rattle.rollover_notes.specs.inside.Listing.{unready_at}
use Rattle.rollover_notes.proofs.unready.list_unready.Given as goal

abbrev pub invariant-loop-at : goal.invariant-loop-at
invariant-loop-at l =
    l.told.items ++ map (unready_at l.reports.packets.entries) l.at-iterator
    ≡ map (unready_at l.reports.packets.entries) l.fn.counts.entries
