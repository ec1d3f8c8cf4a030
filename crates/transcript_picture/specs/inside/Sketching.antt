-- What is kept of facts that come one after another, and what holds then.
use Rattle.std.specs.Prelude.{◌≡◌, List, ◌∷◌, [], ◌++◌, None, Some, Result, Ok, Err}
use Rattle.lan_core.specs.declared.fact.Fact.{Fact}
use Rattle.transcript_check.specs.declared.fault.CheckError.{CheckError}
use Rattle.transcript_check.specs.declared.fault.CheckError.TheVariants.{Refused, Memory}
use Rattle.transcript_check.specs.Standing.{AreSaksOf, Saks, refusal}
use Rattle.transcript_picture.specs.Standing.{KeptScene, Shows}

-- the SAKs that the facts installed, and what is seen of them
pub record KeptSketch : Type 0 where
  pub saks : Saks
  pub scene : KeptScene

-- after these facts
pub record IsSketchOf (facts : List Fact) (kept : KeptSketch) : Type 0 where
  pub saks_are : AreSaksOf facts kept.saks
  pub shows : Shows facts kept.scene

-- a fact was taken behind others; or it is refused, and nothing changed; or memory ran out
abbrev pub Sketches : List Fact → Fact → KeptSketch → KeptSketch → Result (Unit {0}) CheckError → Type 0
Sketches facts fact old new (Ok done) = (refusal facts fact ≡ None) × IsSketchOf (facts ++ fact ∷ []) new
Sketches facts fact old new (Err (Refused why)) = (refusal facts fact ≡ Some why) × (new ≡ old)
Sketches facts fact old new (Err Memory) = Unit {0}
