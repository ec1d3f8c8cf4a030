-- The words behind the first word of a line of the key text, and the line that they make (this profile's
-- own rule).
use Rattle.std.specs.Prelude.{ℕ, List, [], ◌∷◌, codes, if◌then◌else◌, Result, Ok, Err}
use Rattle.trace_text.specs.declared.fault.TextFault.{TextFault}
use Rattle.trace_text.specs.declared.fault.TextFault.TheVariants.{Count}
use Rattle.trace_text.specs.Kinds.{Kind, exactly, key_name, number, said, secret}
use Rattle.trace_text.specs.Reading.{◌>>=◌}
use Rattle.trace_text.specs.Words.{is_word}
use Rattle.audit_text.specs.declared.line.KeyLine.{KeyLine}
use Rattle.audit_text.specs.declared.line.KeyLine.TheVariants.{Capture, Group, Sak}
use Rattle.audit_text.specs.declared.line.Sender.{Sender}
use Rattle.audit_text.specs.declared.line.Sender.TheVariants.{Any, One}

-- behind `group`: a key and its name
abbrev pub group_of : List (List ℕ) → Result KeyLine TextFault
group_of (key ∷ its_name ∷ []) = do
  cak ← said secret key
  ckn ← said key_name its_name
  Ok (Group cak ckn)
group_of words = Err Count

-- an SCI, of eight octets
abbrev pub identifier : Kind
identifier = exactly 8

-- an association number
abbrev pub association : Kind
association = number 0 3

-- whose frames a key protects: those of one sender, or of all
abbrev pub sender_in : List ℕ → Result Sender TextFault
sender_in word =
    if is_word word (codes "any") then Ok Any
    else (said identifier word >>= (λ sci. Ok (One (record { 0 = sci }))))

-- behind `sak`: a sender, an association number, and a key
abbrev pub sak_of : List (List ℕ) → Result KeyLine TextFault
sak_of (sender ∷ an ∷ key ∷ []) = do
  s ← sender_in sender
  a ← said association an
  k ← said secret key
  Ok (Sak s a k)
sak_of words = Err Count

-- behind `capture`: nothing
abbrev pub capture_of : List (List ℕ) → Result KeyLine TextFault
capture_of [] = Ok Capture
capture_of words = Err Count
