-- A text is read or refused.
use Rattle.std.proofs.Common.{◌≡◌, ℕ, List, inl, inr, refl, subst}
use Rattle.std.specs.Prelude.{◌⊎◌, Option, Some, None, Result, Ok, Err}
use Rattle.trace_text.specs.Answering.{Answers}
use Rattle.trace_text.specs.declared.fault.LineError.{LineError}
use Rattle.trace_text.specs.declared.fault.LineError.TheVariants.{Memory}
use Rattle.trace_text.specs.declared.fault.TextFault.{TextFault}
use Rattle.audit_text.specs.declared.line.KeyLine.{KeyLine}
use Rattle.audit_text.specs.Reading.{key_line_in, first_key_fault}

one_of_both : (text : List ℕ) (r : Result (Option KeyLine) TextFault) → key_line_in text ≡ r
    → ((said : Option KeyLine) × (key_line_in text ≡ Ok said)) ⊎ ((fault : TextFault) × (first_key_fault text ≡ Some fault))
one_of_both text (Ok said) e = inl (said, e)
one_of_both text (Err fault) e = inr (fault, rw e refl)

-- a text is read or refused
pub read_or_refused : (text : List ℕ) → ((said : Option KeyLine) × (key_line_in text ≡ Ok said)) ⊎ ((fault : TextFault) × (first_key_fault text ≡ Some fault))
read_or_refused text = one_of_both text (key_line_in text) refl

wanted : (given : Result (Option KeyLine) TextFault) (text : List ℕ) → key_line_in text ≡ given → Answers {X = Option KeyLine} (Err Memory) given → first_key_fault text ≡ None
wanted (Ok said) text e answers = rw e refl
wanted (Err fault) text e answers = absurd cc

-- where memory is wanting, the text has no fault
pub no_fault : (text : List ℕ) (r : Result (Option KeyLine) LineError) → Answers r (key_line_in text) → r ≡ Err Memory → first_key_fault text ≡ None
no_fault text r answers e = wanted (key_line_in text) text refl (subst (λ x. Answers x (key_line_in text)) e answers)
