use Rattle.std.proofs.Common.{◌≡◌}
use Rattle.std.specs.Prelude.{◌||◌}
use Rattle.rollover_notes.specs.inside.Walking.{counts_at, is_late_to, timing_at, walked}
use Rattle.rollover_notes.proofs.walk.tell.Given as goal

abbrev pub invariant-loop-at : goal.invariant-loop-at
invariant-loop-at l =
    let timing = timing_at l.givings l.reports l.speakers l.frame in
    record {
      counts : walked timing l.frame (counts_at l.initial.counts.entries) l.speakers.last.entries
          ≡ walked timing l.frame (counts_at l.counts.entries) l.at-iterator;
      late_to : is_late_to timing l.speakers.last.entries ≡ (l.late || is_late_to timing l.at-iterator);
    }
