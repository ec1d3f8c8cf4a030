-- A fact is asked for, and then drawn.
use Rattle.std.proofs.Common.{◌≡◌, List, Option, Some, None, Result, Ok, Err, refl}
use Rattle.std.specs.Prelude.{◌↔◌}
use Rattle.lan_core.specs.declared.fact.Fact.{Fact}
use Rattle.transcript_check.specs.declared.fault.CheckError.{CheckError}
use Rattle.transcript_check.specs.declared.fault.CheckError.TheVariants.{Refused, Memory}
use Rattle.transcript_check.specs.declared.fault.CheckFault.{CheckFault}
use Rattle.transcript_check.specs.Standing.{AreSaksOf, Saks, refusal}
use Rattle.transcript_picture.specs.inside.Sketching.{KeptSketch, Sketches}

-- a fact was asked for, and this was answered
abbrev IsAsked : Fact → Saks → Result (Unit {0}) CheckError → Type 0
IsAsked fact old r = (facts : List Fact) → AreSaksOf facts old → (why : CheckFault)
    → (r ≡ Err (Refused why)) ↔ (refusal facts fact ≡ Some why)

pub asked-free : (facts : List Fact) (fact : Fact) (saks : Saks) (u : Unit {0}) → AreSaksOf facts saks
    → IsAsked fact saks (Ok u) → refusal facts fact ≡ None
asked-free facts fact saks u are asked = go (refusal facts fact) refl
  where
    go : (o : Option CheckFault) → refusal facts fact ≡ o → refusal facts fact ≡ None
    go None e = e
    go (Some why) e = absurd (cc ((asked facts are why).1 e))

pub asked-not : (facts : List Fact) (fact : Fact) (old new : KeptSketch) (error : CheckError) → AreSaksOf facts old.saks
    → IsAsked fact old.saks (Err error) → new ≡ old → Sketches facts fact old new (Err error)
asked-not facts fact old new (Refused why) are asked same = ((asked facts are why).0 refl, same)
asked-not facts fact old new Memory are asked same = tt
