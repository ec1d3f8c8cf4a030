-- The words behind a first word that only a trace of two groups has, and the line that they make.
use Rattle.std.specs.Prelude.{ℕ, ◌-◌, ◌^◌, List, [], ◌∷◌, Result, Ok, Err}
use Rattle.trace_text.specs.declared.fault.TextFault.{TextFault}
use Rattle.trace_text.specs.declared.fault.TextFault.TheVariants.{Count}
use Rattle.trace_text.specs.Kinds.{Kind, number, name, secret, key_name, said}
use Rattle.trace_text.specs.Reading.{◌>>=◌}
use Rattle.trace_text.specs.declared.twin.line.RollLine.{RollLine}
use Rattle.trace_text.specs.declared.twin.line.RollLine.TheVariants.{Group2, Adopt, Leave}

-- a group's number; which groups there are is asked where the line is performed
abbrev pub group_number : Kind
group_number = number 0 (2 ^ 32 - 1)

-- behind `group2`: a key and its name, as behind `group`
abbrev pub group2_of : List (List ℕ) → Result RollLine TextFault
group2_of (key ∷ its_name ∷ []) = do
  cak ← said secret key
  ckn ← said key_name its_name
  Ok (Group2 cak ckn)
group2_of words = Err Count

-- behind `adopt`: a station's name
abbrev pub adopt_of : List (List ℕ) → Result RollLine TextFault
adopt_of (station ∷ []) = do
  n ← said name station
  Ok (Adopt n)
adopt_of words = Err Count

-- behind `leave`: the number of a group, and a station's name
abbrev pub leave_of : List (List ℕ) → Result RollLine TextFault
leave_of (group ∷ station ∷ []) = do
  g ← said group_number group
  n ← said name station
  Ok (Leave g n)
leave_of words = Err Count
