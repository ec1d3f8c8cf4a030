-- What is kept of packets.
use Rattle.std.specs.Prelude.{List}
use Rattle.use_notes.specs.changes.Standing.{Senders, StandsFor as ChangesStandFor}
use Rattle.mark_notes.specs.Standing.{KeptMarks, StandsFor as MarksStandFor}
use Rattle.member_notes.specs.Spoken.{Spoken}
use Rattle.member_notes.specs.FactsKept.{HoldsFacts, Speakers}
use Rattle.rollover_notes.specs.Events.{Event}
use Rattle.rollover_notes.specs.Standing.{KeptRollovers, StandsFor as RolloverStandsFor}
use Rattle.use_notes.specs.declared.frame.RightFrame.{RightFrame}
use Rattle.audit_report.specs.Unknown.{KeptNames, StandsFor as NamesStandFor}
use Rattle.audit_facts.specs.Noted.{Noted, events, fresh_frames, givings, reuses, spoken_of, unknown_names}

-- ---- what is told of changes, of members, and of who was ready for a key

pub record Told : Type 0 where
  pub changes : Senders
  pub members : Speakers
  pub rollover : KeptRollovers

-- after these fresh frames, right MKPDUs and events
pub record Holds (frames : List RightFrame) (spoken : List Spoken) (events : List Event) (kept : Told) : Type 0 where
  pub changes : ChangesStandFor frames kept.changes
  pub members : HoldsFacts spoken kept.members
  pub rollover : RolloverStandsFor events kept.rollover

abbrev pub ToldStandFor : List Noted → Told → Type 0
ToldStandFor h kept = Holds (fresh_frames h) (spoken_of h) (events h) kept

-- ---- and what is marked, and which names no group has

pub record KeptFacts : Type 0 where
  pub told : Told
  pub marks : KeptMarks
  pub unknown : KeptNames

pub record StandsFor (h : List Noted) (kept : KeptFacts) : Type 0 where
  pub told : ToldStandFor h kept.told
  pub marks : MarksStandFor (givings h) (reuses h) kept.marks
  pub unknown : NamesStandFor (unknown_names h) kept.unknown
