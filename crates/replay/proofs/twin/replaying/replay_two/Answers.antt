use Rattle.std.proofs.Common.{sym, ◌∙◌}
use Rattle.replay.specs.Sinks.{sunk}
use Rattle.replay.proofs.twin_runs.Playing.{ended-as, never-forged, turned-as}
use Rattle.replay.proofs.twin.replaying.replay_two.Goals as goal

pub returns-clause-replayed : goal.returns-clause-replayed
returns-clause-replayed g c =
    let k = g.K.Sink in
    rw c.ended.ensures (ended-as (record {
      tidy = c.law_groups_of_tidy_worlds_are_sound.ensures.start;
      never = c.law_acts_stop_for_their_own_reasons.ensures.own;
      unforged = c.law_acts_stop_for_their_own_reasons.ensures.unforged;
    }) (λ at. at.taker.replay) (λ s. sunk (k.held s) (k.faults s)) _ _ _ _ _ c.new.ensures
    c.read_lines-read.ensures.counts c.read_lines-read.ensures.reads)

pub returns-clause-unforged : goal.returns-clause-unforged
returns-clause-unforged g c = λ line is.
    let k = g.K.Sink in
    never-forged (record {
      tidy = c.law_groups_of_tidy_worlds_are_sound.ensures.start;
      never = c.law_acts_stop_for_their_own_reasons.ensures.own;
      unforged = c.law_acts_stop_for_their_own_reasons.ensures.unforged;
    }) (λ at. at.taker.replay) (λ s. sunk (k.held s) (k.faults s)) _ _ _ _ _ line c.new.ensures
    c.read_lines-read.ensures.reads.takes (sym c.ended.ensures ∙ is)

pub returns-clause-turned : goal.returns-clause-turned
returns-clause-turned g c =
    let k = g.K.Sink in
    rw c.ended.ensures (turned-as (record {
      tidy = c.law_groups_of_tidy_worlds_are_sound.ensures.start;
      never = c.law_acts_stop_for_their_own_reasons.ensures.own;
      unforged = c.law_acts_stop_for_their_own_reasons.ensures.unforged;
    }) (λ at. at.taker.replay) (λ s. sunk (k.held s) (k.faults s)) g.S.Source.Gave _ _ _ _ _ c.new.ensures
    c.read_lines-read.ensures.turns)
