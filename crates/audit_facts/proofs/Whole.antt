-- What callers see of all that is kept.
use Rattle.std.proofs.Common.{◌≡◌, sym, subst}
use Rattle.std.specs.Prelude.{List}
use Rattle.audit_facts.specs.declared.facts.AuditFacts.TheInside.{Inside}
use Rattle.audit_facts.specs.Noted.{Noted}
use Rattle.audit_facts.specs.Standing.{KeptFacts, StandsFor}

abbrev pub both_of : Inside → KeptFacts
both_of f = record { told = f.told; marks = f.marks; unknown = f.unknown }

pub whole : (h : List Noted) (parts : Inside) (seen : KeptFacts) → both_of parts ≡ seen → StandsFor h seen
    → StandsFor h (both_of parts)
whole h parts seen is stands = subst (λ (k : KeptFacts). StandsFor h k) (sym is) stands
