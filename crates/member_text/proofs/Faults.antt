-- A text is read or refused.
use Rattle.std.proofs.Common.{◌≡◌, ℕ, List, inl, inr, refl, subst}
use Rattle.std.specs.Prelude.{◌⊎◌, Option, Some, None, Result, Ok, Err}
use Rattle.trace_text.specs.Answering.{Answers}
use Rattle.trace_text.specs.declared.fault.LineError.{LineError}
use Rattle.trace_text.specs.declared.fault.LineError.TheVariants.{Memory}
use Rattle.trace_text.specs.declared.fault.TextFault.{TextFault}
use Rattle.member_text.specs.declared.line.MemberLine.{MemberLine}
use Rattle.member_text.specs.Reading.{member_line_in, first_member_fault}

one_of_both : (text : List ℕ) (r : Result (Option MemberLine) TextFault) → member_line_in text ≡ r
    → ((said : Option MemberLine) × (member_line_in text ≡ Ok said)) ⊎ ((fault : TextFault) × (first_member_fault text ≡ Some fault))
one_of_both text (Ok said) e = inl (said, e)
one_of_both text (Err fault) e = inr (fault, rw e refl)

-- a text is read or refused
pub read_or_refused : (text : List ℕ) → ((said : Option MemberLine) × (member_line_in text ≡ Ok said)) ⊎ ((fault : TextFault) × (first_member_fault text ≡ Some fault))
read_or_refused text = one_of_both text (member_line_in text) refl

wanted : (given : Result (Option MemberLine) TextFault) (text : List ℕ) → member_line_in text ≡ given → Answers {X = Option MemberLine} (Err Memory) given → first_member_fault text ≡ None
wanted (Ok said) text e answers = rw e refl
wanted (Err fault) text e answers = absurd cc

-- where memory is wanting, the text has no fault
pub no_fault : (text : List ℕ) (r : Result (Option MemberLine) LineError) → Answers r (member_line_in text) → r ≡ Err Memory → first_member_fault text ≡ None
no_fault text r answers e = wanted (member_line_in text) text refl (subst (λ x. Answers x (member_line_in text)) e answers)
