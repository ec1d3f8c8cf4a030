use Rattle.std.proofs.Common.{◌≤◌, ◌-◌}
use Rattle.text_lines.specs.Moments.{moment}
use Rattle.text_lines.proofs.Pieces.{HasRead}
use Rattle.text_lines.proofs.Turning.{Turned}
use Rattle.text_lines.proofs.reading.read_lines.Given as goal

abbrev pub invariant-loop-count : goal.invariant-loop-count
invariant-loop-count g l =
    let t = g.T.LineTaker in
    let s = g.S.Source in
    record {
      within : l.total ≤ l.limit;
      counts : s.faults l.fn.source ≤ s.faults l.source;
      read : HasRead t.Did (s.left l.fn.source) l.total (moment l.fn.taker l.fn.outlet)
          (s.left l.source) l.begun.items (moment l.taker l.outlet);
      turned : Turned s.Gave t.Did l.fn.source l.source l.total l.begun.items
          (moment l.fn.taker l.fn.outlet) (moment l.taker l.outlet);
    }

abbrev pub decreases-loop-count : goal.decreases-loop-count
decreases-loop-count g l = l.limit - l.total
