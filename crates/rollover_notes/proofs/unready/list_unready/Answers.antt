use Rattle.std.specs.Map.Iter.{deref_pair}
use Rattle.std.proofs.lemmas.Map.Iter.{rest_all}
use Rattle.rollover_notes.proofs.Listing.{all-listed}
use Rattle.rollover_notes.proofs.unready.list_unready.Goals as goal

pub returns : goal.returns
returns c =
    let none = rest_all deref_pair c.loop-at.at-iterator c.next.new.self c.next.result c.in-None.is c.next.ensures.steps in
    record {
      each = all-listed c.args.reports.now.packets.entries c.loop-at.told.items c.loop-at.at-iterator c.args.counts.now.entries
          c.loop-at.invariant none;
      ordered = c.into_iter-at-iterator.ensures.into_iter_gives.5;
    }
