-- What holds of the facts of a transcript that was read: by how reading ended, and before the last octets.
use Rattle.std.specs.Prelude.{List, Result, Ok, Err}
use Rattle.lan_core.specs.declared.fact.Fact.{Fact}
use Rattle.text_lines.specs.Moments.{Moment}
use Rattle.transcript_reader.specs.Taking.{Courses}
use Rattle.text_lines.specs.declared.unfinished.Unfinished.{Unfinished}
use Rattle.text_lines.specs.declared.unfinished.Unfinished.TheVariants as ends

-- these facts were taken, as far as the answer says
abbrev pub Reached : {F T K : Type 0} → Courses T K → Moment T K → Moment T K
    → Result (Unit {0}) (Unfinished F) → List Fact → Type 0
Reached courses first now (Ok done) facts = courses.Took first facts now
Reached courses first now (Err (ends.Refused number why)) facts = courses.Took first facts now
Reached courses first now (Err ends.Memory) facts = courses.Broke first facts now
Reached courses first now (Err ends.WriteFault) facts = courses.Cut first facts now
Reached courses first now (Err ends.ReadFault) facts = courses.Took first facts now
Reached courses first now (Err ends.Limit) facts = courses.Took first facts now

-- these facts were taken, and the outlet went on from there
pub record WasReached {T K : Type 0} (courses : Courses T K) (Grew : K → K → Type 0) (first now : Moment T K)
    (facts : List Fact) : Type 0 where
  pub then : Moment T K
  pub took : courses.Took first facts then
  pub grew : Grew then.outlet now.outlet

-- there is no outlet, so none failed
abbrev pub HasNoOutlet : {F : Type 0} → Unfinished F → Type 0
HasNoOutlet (ends.Refused number why) = Unit {0}
HasNoOutlet ends.Memory = Unit {0}
HasNoOutlet ends.WriteFault = ⊥
HasNoOutlet ends.ReadFault = Unit {0}
HasNoOutlet ends.Limit = Unit {0}
