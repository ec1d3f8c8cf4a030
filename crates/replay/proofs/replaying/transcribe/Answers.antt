use Rattle.replay.specs.Sinks.{sunk}
use Rattle.replay.proofs.Telling.{transcript-shows}
use Rattle.replay.proofs.Playing.{ended-as, turned-as}
use Rattle.replay.proofs.replaying.transcribe.Goals as goal

pub returns-clause-replayed : goal.returns-clause-replayed
returns-clause-replayed g c =
    let k = g.K.Sink in
    rw c.ended.ensures (ended-as (record {
      tidy = c.law_lines_leave_a_tidy_world.ensures.start;
      never = c.law_acts_stop_for_their_own_reasons.ensures;
    }) _ _ (λ at. at.taker.replay) (λ s. sunk (k.held s) (k.faults s)) _
    (transcript-shows (λ s. sunk (k.held s) (k.faults s))) _ _ _ _ _ _ c.new.ensures.stands
    c.read_lines-read.ensures.counts c.read_lines-read.ensures.reads c.close-may.ensures.closes)

pub returns-clause-turned : goal.returns-clause-turned
returns-clause-turned g c =
    let k = g.K.Sink in
    rw c.ended.ensures (turned-as (record {
      tidy = c.law_lines_leave_a_tidy_world.ensures.start;
      never = c.law_acts_stop_for_their_own_reasons.ensures;
    }) _ _ (λ at. at.taker.replay) (λ s. sunk (k.held s) (k.faults s)) _
    (transcript-shows (λ s. sunk (k.held s) (k.faults s))) g.S.Source.Gave _ _ _ _ _ _ c.new.ensures.stands
    c.read_lines-read.ensures.turns c.close-may.ensures.closes)
