use Rattle.std.proofs.Common.{ap}
use Rattle.fact_tally.specs.Summary.{line_of}
use Rattle.replay.specs.Sinks.{sunk}
use Rattle.replay.proofs.Telling.{nothing-shows}
use Rattle.replay.proofs.Playing.{summed-as}
use Rattle.replay.proofs.replaying.summarize.Goals as goal

pub returns : goal.returns
returns g c =
    let k = g.K.Sink in
    summed-as (record {
      tidy = c.law_lines_leave_a_tidy_world.ensures.start;
      never = c.law_acts_stop_for_their_own_reasons.ensures;
    }) _ _ (λ at. at.taker.replay) (λ s. sunk (k.held s) (k.faults s))
    (nothing-shows (λ s. sunk (k.held s) (k.faults s))) (line_of c.tally.result.now) _ _ _ _ _ _ _ _ _
    c.new.ensures.stands c.read_lines-read.ensures.counts c.read_lines-read.ensures.reads c.close-may.ensures.closes
    (λ w stands. ap (λ t. line_of t) (c.tally.ensures.goes w stands))
    c.ended.ensures c.sum_up.ensures
