use Rattle.std.specs.Map.Iter.{deref_pair}
use Rattle.std.proofs.lemmas.Map.Iter.{rest_all}
use Rattle.rollover_notes.proofs.ReportListing.{all-told}
use Rattle.rollover_notes.proofs.report.list_reports.Goals as goal

pub returns : goal.returns
returns c =
    let none = rest_all deref_pair c.loop-at.at-iterator c.next.new.self c.next.result c.in-None.is c.next.ensures.steps in
    record {
      each = all-told c.loop-at.told.items c.loop-at.at-iterator c.args.reports.now.packets.entries c.loop-at.invariant none;
      ordered = c.into_iter-at-iterator.ensures.into_iter_gives.5;
    }
