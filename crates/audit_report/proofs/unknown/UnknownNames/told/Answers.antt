use Rattle.std.proofs.Common.{◌≡◌, ◌∙◌, ap}
use Rattle.std.specs.Prelude.{Result, Ok, Err, IfOk}
use Rattle.audit_report.specs.Unknown.{KeptNames, unknown_of}
use Rattle.audit_report.proofs.unknown.UnknownNames.told.Goals as goal

if_ok : {T E : Type 0} {P Q : T → Type 0} (r : Result T E) → ((x : T) → P x → Q x) → IfOk r P → IfOk r Q
if_ok (Ok x) f p = f x p
if_ok (Err e) f p = tt

pub returns : goal.returns
returns c = λ h stands.
    let is : c.self.inside.names.items ≡ unknown_of h =
    ap (λ (k : KeptNames). k.names) c.self.view_is ∙ stands.names in
    if_ok c.copied.result (λ us same. same ∙ c.deref.ensures.value ∙ is) c.copied.ensures
