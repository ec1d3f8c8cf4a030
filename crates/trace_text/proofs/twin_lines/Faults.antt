-- A text is read or refused.
use Rattle.std.proofs.Common.{◌≡◌, ℕ, List, inl, inr, refl, subst}
use Rattle.std.specs.Prelude.{◌⊎◌, Option, Some, None, Result, Ok, Err}
use Rattle.trace_text.specs.Answering.{Answers}
use Rattle.trace_text.specs.declared.fault.LineError.{LineError}
use Rattle.trace_text.specs.declared.fault.LineError.TheVariants.{Memory}
use Rattle.trace_text.specs.declared.fault.TextFault.{TextFault}
use Rattle.trace_text.specs.declared.twin.line.RollLine.{RollLine}
use Rattle.trace_text.specs.twin.Reading.{roll_line_in, first_roll_fault}

one_of_both : (text : List ℕ) (r : Result (Option RollLine) TextFault) → roll_line_in text ≡ r
    → ((said : Option RollLine) × (roll_line_in text ≡ Ok said)) ⊎ ((fault : TextFault) × (first_roll_fault text ≡ Some fault))
one_of_both text (Ok said) e = inl (said, e)
one_of_both text (Err fault) e = inr (fault, rw e refl)

-- a text is read or refused
pub read_or_refused : (text : List ℕ) → ((said : Option RollLine) × (roll_line_in text ≡ Ok said)) ⊎ ((fault : TextFault) × (first_roll_fault text ≡ Some fault))
read_or_refused text = one_of_both text (roll_line_in text) refl

wanted : (given : Result (Option RollLine) TextFault) (text : List ℕ) → roll_line_in text ≡ given → Answers {X = Option RollLine} (Err Memory) given → first_roll_fault text ≡ None
wanted (Ok said) text e answers = rw e refl
wanted (Err fault) text e answers = absurd cc

-- where memory is wanting, the text has no fault
pub no_fault : (text : List ℕ) (r : Result (Option RollLine) LineError) → Answers r (roll_line_in text) → r ≡ Err Memory → first_roll_fault text ≡ None
no_fault text r answers e = wanted (roll_line_in text) text refl (subst (λ x. Answers x (roll_line_in text)) e answers)
