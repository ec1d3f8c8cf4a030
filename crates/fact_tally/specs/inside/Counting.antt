-- One fact more is counted.
use Rattle.std.specs.Prelude.{ℕ, ◌+◌, min, Bool, true, false}
use Rattle.rx_slots.specs.declared.arrival.Arrival.{Arrival}
use Rattle.lan_core.specs.declared.fact.Fact.{Fact}
use Rattle.fact_tally.specs.Summary.{is_accepted, is_beginning, is_claim, is_frame, is_install}
use Rattle.fact_tally.specs.Summary.{is_late, is_missed, is_refusal, is_tick, most, Counts}
use Rattle.fact_tally.specs.Summary.{was_accepted, was_late, was_missed}

-- one more, where it is of the kind
abbrev pub stepped : Bool → ℕ → ℕ
stepped true n = min (n + 1) most
stepped false n = n

-- the counts with a fact more
abbrev pub one_more : Counts → Fact → Counts
one_more c fact = record {
  accepted = stepped (is_accepted fact) c.accepted;
  begun = stepped (is_beginning fact) c.begun;
  claims = stepped (is_claim fact) c.claims;
  frames = stepped (is_frame fact) c.frames;
  installed = stepped (is_install fact) c.installed;
  late = stepped (is_late fact) c.late;
  missed = stepped (is_missed fact) c.missed;
  noclaims = stepped (is_refusal fact) c.noclaims;
  ticks = stepped (is_tick fact) c.ticks;
}

-- the counts with an answer to a protected frame more
abbrev pub one_more_arrival : Counts → Arrival → Counts
one_more_arrival c arrival = record c {
  accepted = stepped (was_accepted arrival) c.accepted;
  late = stepped (was_late arrival) c.late;
  missed = stepped (was_missed arrival) c.missed;
}
