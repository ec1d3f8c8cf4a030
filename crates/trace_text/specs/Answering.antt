-- What a step of reading answers, beside what the definitions give.
use Rattle.std.specs.Prelude.{ℕ, ◌≡◌, ◌==◌, false, List, length, Result, Ok, Err, IsOk}
use Rattle.std.specs.Result.{result_map_both}
use Rattle.trace_text.specs.declared.fault.LineError.{LineError}
use Rattle.trace_text.specs.declared.fault.LineError.TheVariants.{Refused, Memory}
use Rattle.trace_text.specs.declared.fault.TextFault.{TextFault}
use Rattle.trace_text.specs.declared.fault.TextFault.TheVariants.{Count}

-- so many words were taken, as the view shows them, or there is another count of them
abbrev pub Takes : {X : Type 0}
    → ℕ → Result X TextFault → (X → List (List ℕ)) → List (List ℕ) → Type 0
Takes count (Ok x) view words = words ≡ view x
Takes count (Err fault) view words = (fault ≡ Count) × ((length words == count) ≡ false)

-- what is given was answered, or memory was wanting where a value is given
abbrev pub Answers : {X : Type 0} → Result X LineError → Result X TextFault → Type 0
Answers (Ok x) given = given ≡ Ok x
Answers (Err (Refused fault)) given = given ≡ Err fault
Answers (Err Memory) given = IsOk given

-- only whether a value is given, or which fault
abbrev pub checked : {X : Type 0} → Result X TextFault → Result (Unit {0}) TextFault
checked given = result_map_both (λ _. tt) (λ fault. fault) given
