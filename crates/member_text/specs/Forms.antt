-- The words behind a first word that only a member's input has, and the line that they make.
use Rattle.std.specs.Prelude.{ℕ, ◌-◌, ◌^◌, if◌then◌else◌, List, [], ◌∷◌, codes, Result, Ok, Err}
use Rattle.trace_text.specs.declared.fault.TextFault.{TextFault}
use Rattle.trace_text.specs.declared.fault.TextFault.TheVariants.{Count}
use Rattle.trace_text.specs.Words.{is_word}
use Rattle.trace_text.specs.Kinds.{Kind, number, name, exactly, priority, injected, said}
use Rattle.trace_text.specs.Reading.{◌>>=◌}
use Rattle.member_text.specs.declared.line.MemberLine.{MemberLine}
use Rattle.member_text.specs.declared.line.MemberLine.TheVariants.{Member, Tick, Hear}

-- the next packet number of 32 bits, or one more than the last, which says that none is left
abbrev pub next_number : Kind
next_number = number 0 (2 ^ 32)

-- the lowest acceptable packet number
abbrev pub lowest_number : Kind
lowest_number = number 0 (2 ^ 32 - 1)

-- The next packet number that a word spells. The one that says that none is left has as many digits as a
-- number may have, and so one spelling.
abbrev pub next_of : List ℕ → Result ℕ TextFault
next_of word = if is_word word (codes "4294967296") then Ok (2 ^ 32) else said lowest_number word

-- as many octets are heard as a trace injects
abbrev pub heard : Kind
heard = injected

-- behind `member`: a station's name, its SCI and its priority
abbrev pub member_of : List (List ℕ) → Result MemberLine TextFault
member_of (station ∷ channel ∷ rank ∷ []) = do
  n ← said name station
  sci ← said (exactly 8) channel
  p ← said priority rank
  Ok (Member n (record { 0 = sci }) p)
member_of words = Err Count

-- behind `tick`: the next packet number, and the lowest acceptable ones under the latest and the old key
abbrev pub tick_of : List (List ℕ) → Result MemberLine TextFault
tick_of (first ∷ second ∷ third ∷ []) = do
  next ← next_of first
  latest ← said lowest_number second
  old ← said lowest_number third
  Ok (Tick next latest old)
tick_of words = Err Count

-- behind `hear`: the octets of a frame
abbrev pub hear_of : List (List ℕ) → Result MemberLine TextFault
hear_of (frame ∷ []) = do
  octets ← said heard frame
  Ok (Hear octets)
hear_of words = Err Count
