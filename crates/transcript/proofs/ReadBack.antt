-- What a line that is read back says.
use Rattle.std.proofs.Common.{◌≡◌, ℕ, ◌<◌, List, length, refl, sym, ap, subst, ◌∙◌, inl, inr}
use Rattle.std.specs.Prelude.{◌↔◌, Option, Some, None, IsSome, Result, Ok, Err, IfOk, IfErr}
use Rattle.lan_core.specs.declared.fact.Fact.{Fact}
use Rattle.lan_core.specs.declared.fact.Fact.TheVariants.{Framed, HeardMka, Arrived}
use Rattle.lan_core.specs.Run.{place}
use Rattle.transcript.specs.Rendering.{IsFact, Says, AreNames, IsOfFrame}
use Rattle.transcript.specs.declared.fault.FactError.{FactError}
use Rattle.transcript.specs.declared.fault.FactError.TheVariants.{Unread, Memory}
use Rattle.transcript.specs.inside.Reading.{fact_in}
use Rattle.transcript.specs.inside.Taking.{Answers, IsForFrame}
use Rattle.transcript.proofs.Said.{same_some}
use Rattle.transcript.proofs.Texts.{line_told, line_said}

abbrev same : Fact → Fact
same fact = fact

pub told : (names : List (List ℕ)) (line : List ℕ) (fact : Fact) → AreNames names → Says names line fact → fact_in names line ≡ Some fact
told names line fact are says = ap (fact_in names) (sym says.1) ∙ line_told names fact are.0 are.1 says.0

pub some_fact : (o : Option Fact) → IsSome o → (fact : Fact) × (o ≡ Some fact)
some_fact (Some fact) some = (fact, refl)
some_fact None some = absurd cc

pub read : (names : List (List ℕ)) (line : List ℕ) (r : Result Fact FactError) → Answers same r (fact_in names line) → IfOk r (λ fact. Says names line fact)
read names line (Ok fact) answers = line_said names line fact answers
read names line (Err fault) answers = tt

placed : (names : List (List ℕ)) (fact : Fact) → IsFact names fact → place fact < length names
placed names (Framed k s sec xs) fit = fit.1.1.0.0
placed names (HeardMka k s verdict) fit = fit.1.1.0.0
placed names (Arrived k s arrival) fit = fit.1.1.0.0
placed names _ fit = fit.1.0.0

pub among : (names : List (List ℕ)) (line : List ℕ) (r : Result Fact FactError) → Answers same r (fact_in names line) → IfOk r (λ fact. place fact < length names)
among names line (Ok fact) answers = placed names fact (line_said names line fact answers).0
among names line (Err fault) answers = tt

pub found : (names : List (List ℕ)) (line : List ℕ) (r : Result Fact FactError) → Answers same r (fact_in names line) → AreNames names → (fact : Fact)
    → Says names line fact → IfOk r (λ answer. answer ≡ fact)
found names line (Ok answer) answers are fact says = same_some answer fact (sym answers ∙ told names line fact are says)
found names line (Err fault) answers are fact says = tt

none_says : (names : List (List ℕ)) (line : List ℕ) (r : Result Fact FactError) → Answers same r (fact_in names line) → AreNames names → r ≡ Err Unread
    → (fact : Fact) → Says names line fact → ⊥
none_says names line (Ok answer) answers are e fact says = absurd cc
none_says names line (Err fault) (inl none) are e fact says = cc (none.1, told names line fact are says)
none_says names line (Err fault) (inr some) are e fact says = cc (some.0, e)

unsaid : (names : List (List ℕ)) (line : List ℕ) (r : Result Fact FactError) → Answers same r (fact_in names line)
    → ((fact : Fact) → Says names line fact → ⊥) → r ≡ Err Unread
unsaid names line (Ok answer) answers none = absurd (none answer (line_said names line answer answers))
unsaid names line (Err fault) (inl here) none = ap (λ f. Err f) here.0
unsaid names line (Err fault) (inr some) none =
    let p = some_fact (fact_in names line) some.1 in
    absurd (none p.0 (line_said names line p.0 p.1))

pub unread : (names : List (List ℕ)) (line : List ℕ) (r : Result Fact FactError) → Answers same r (fact_in names line) → AreNames names
    → (r ≡ Err Unread) ↔ ((fact : Fact) → Says names line fact → ⊥)
unread names line r answers are = (none_says names line r answers are, unsaid names line r answers)

-- what memory was wanting for
pub of_frame : (o : Option Fact) (fact : Fact) (fault : FactError) → o ≡ Some fact → fault ≡ Memory
    → IsForFrame fault o → IsOfFrame fact
of_frame o fact fault some e frame =
    subst (λ (p : Option Fact). IsForFrame Memory p) some (subst (λ f. IsForFrame f o) e frame)

pub frames : (names : List (List ℕ)) (line : List ℕ) (r : Result Fact FactError)
    → IfErr r (λ fault. IsForFrame fault (fact_in names line)) → AreNames names → r ≡ Err Memory
    → (fact : Fact) → Says names line fact → IsOfFrame fact
frames names line (Ok answer) frame are e fact says = absurd cc
frames names line (Err fault) frame are e fact says =
    of_frame (fact_in names line) fact Memory (told names line fact are says) refl
    (subst (λ (r : Result Fact FactError). IfErr r (λ fault. IsForFrame fault (fact_in names line))) e frame)

pub memory : (names : List (List ℕ)) (line : List ℕ) (r : Result Fact FactError) → Answers same r (fact_in names line) → r ≡ Err Memory
    → (fact : Fact) × Says names line fact
memory names line (Ok answer) answers e = absurd cc
memory names line (Err fault) (inl none) e = absurd (cc (none.0, e))
memory names line (Err fault) (inr some) e =
    let p = some_fact (fact_in names line) some.1 in
    (p.0, line_said names line p.0 p.1)
