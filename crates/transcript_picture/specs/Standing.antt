-- What is seen of a scene: the spans of its facts, when stations left a group, when they served, and what they sent.
use Rattle.std.specs.Prelude.{List}
use Rattle.lan_core.specs.declared.fact.Fact.{Fact}
use Rattle.key_spans.specs.Courts.{AreReignsOf, KeptReigns}
use Rattle.key_spans.specs.Seats.{AreSeatsOf, KeptSeats}
use Rattle.key_spans.specs.Sends.{AreSendsOf, KeptSends}
use Rattle.key_spans.specs.Standing.{KeptSpans, StandsFor}

pub record KeptScene : Type 0 where
  pub spans : KeptSpans
  pub seats : KeptSeats
  pub reigns : KeptReigns
  pub sends : KeptSends

-- a scene shows those of these facts
pub record Shows (facts : List Fact) (kept : KeptScene) : Type 0 where
  pub spans_are : StandsFor facts kept.spans
  pub seats_are : AreSeatsOf facts kept.seats
  pub reigns_are : AreReignsOf facts kept.reigns
  pub sends_are : AreSendsOf facts kept.sends
