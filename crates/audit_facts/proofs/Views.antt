-- What callers see of what is kept, and what an answer says, from what a call's says.
use Rattle.std.proofs.Common.{◌≡◌, sym, subst}
use Rattle.std.specs.Prelude.{List, Result, Ok, Err, IfOk, OnOk}
use Rattle.member_notes.specs.Spoken.{Spoken}
use Rattle.rollover_notes.specs.Events.{Event}
use Rattle.use_notes.specs.declared.frame.RightFrame.{RightFrame}
use Rattle.audit_facts.specs.declared.told_facts.ToldFacts.TheInside.{Inside}
use Rattle.audit_facts.specs.Standing.{Holds, Told}

abbrev pub kept_of : Inside → Told
kept_of f = record { changes = f.changes; members = f.members; rollover = f.rollover }

-- what is held of what callers see is held of the parts
pub inside : (fs : List RightFrame) (ss : List Spoken) (es : List Event) (parts : Inside) (seen : Told)
    → kept_of parts ≡ seen → Holds fs ss es seen → Holds fs ss es (kept_of parts)
inside fs ss es parts seen is holds = subst (λ (k : Told). Holds fs ss es k) (sym is) holds

pub on_ok : {T E P Q : Type 0} (r : Result T E) → (P → Q) → OnOk r P → OnOk r Q
on_ok (Ok x) f p = f p
on_ok (Err e) f p = tt

pub if_ok : {T E : Type 0} {P Q : T → Type 0} (r : Result T E) → ((x : T) → P x → Q x) → IfOk r P → IfOk r Q
if_ok (Ok x) f p = f x p
if_ok (Err e) f p = tt
