-- A text is read or refused.
use Rattle.std.proofs.Common.{◌≡◌, ℕ, List, refl, inl, inr, subst}
use Rattle.std.specs.Prelude.{◌⊎◌, Option, Some, None, Result, Ok, Err}
use Rattle.trace_text.specs.declared.fault.LineError.{LineError}
use Rattle.trace_text.specs.declared.fault.LineError.TheVariants.{Memory}
use Rattle.trace_text.specs.declared.fault.TextFault.{TextFault}
use Rattle.trace_text.specs.declared.line.Line.{Line}
use Rattle.trace_text.specs.Reading.{line_in, first_fault}
use Rattle.trace_text.specs.Answering.{Answers}

one_of_both : (text : List ℕ) (r : Result (Option Line) TextFault) → line_in text ≡ r
    → ((said : Option Line) × (line_in text ≡ Ok said)) ⊎ ((fault : TextFault) × (first_fault text ≡ Some fault))
one_of_both text (Ok said) e = inl (said, e)
one_of_both text (Err fault) e = inr (fault, rw e refl)

-- a text is read or refused
pub read_or_refused : (text : List ℕ) → ((said : Option Line) × (line_in text ≡ Ok said)) ⊎ ((fault : TextFault) × (first_fault text ≡ Some fault))
read_or_refused text = one_of_both text (line_in text) refl

wanted : (given : Result (Option Line) TextFault) (text : List ℕ) → line_in text ≡ given → Answers {X = Option Line} (Err Memory) given → first_fault text ≡ None
wanted (Ok said) text e answers = rw e refl
wanted (Err fault) text e answers = absurd cc

-- where memory is wanting, the text has no fault
pub no_fault : (text : List ℕ) (r : Result (Option Line) LineError) → Answers r (line_in text) → r ≡ Err Memory → first_fault text ≡ None
no_fault text r answers e = wanted (line_in text) text refl (subst (λ x. Answers x (line_in text)) e answers)
