-- Which numbers were accepted, and so which are late.
use Rattle.std.specs.Prelude.{⊤, ℕ, ◌+◌, ◌-◌, ◌^◌, ◌==◌, Bool, not, ◌&&◌, ◌||◌, nat_lt, max, min, if◌then◌else◌, List, [], ◌∷◌, map}
use Rattle.std.specs.List.{filter}
use Rattle.lan_base.specs.declared.association_number.AssociationNumber.{AssociationNumber}
use Rattle.lan_base.specs.AssociationNumbers.{same_an}
use Rattle.lan_base.specs.declared.address.Sci.{Sci}
use Rattle.rx_slots.specs.declared.arrival.Checked.{Checked}
use Rattle.rx_slots.specs.declared.arrival.Checked.TheVariants as checked_is
use Rattle.rx_slots.specs.declared.arrival.Arrival.{Arrival}
use Rattle.rx_slots.specs.declared.arrival.Arrival.TheVariants.{Accepted, Malformed, Own, Missed, BadCheck, Late}
use Rattle.rx_slots.specs.Histories.{Receiving, installed, removed, heard, standing_key}
use Rattle.lan_base.specs.Identifiers.{same_sci}
use Rattle.rx_slots.specs.Answers.{checked}

-- a packet number that was accepted: under which association number, and of which sender
pub record Taken : Type 0 where
  pub an : AssociationNumber
  pub sci : Sci
  pub pn : ℕ

abbrev pub is_under : AssociationNumber → Taken → Bool
is_under an t = same_an t.an an

abbrev pub is_of : AssociationNumber → Sci → Taken → Bool
is_of an sci t = is_under an t && same_sci t.sci sci

-- the greatest of the numbers and 1
abbrev pub greatest : List ℕ → ℕ
greatest [] = 1
greatest (n ∷ ns) = max n (greatest ns)

-- the next number of a sender under an association number: one more than the greatest that was
-- accepted, 1 where none was
abbrev pub next_number : List Taken → AssociationNumber → Sci → ℕ
next_number past an sci = greatest (map (λ t. t.pn + 1) (filter (is_of an sci) past))

-- Late: the number is 0, or is below the next one by more than the window.
abbrev pub is_late : ℕ → ℕ → ℕ → Bool
is_late window next pn = (pn == 0) || nat_lt (pn + window) next

-- the numbers that were accepted, with that of a frame whose check was right in front, if it is not
-- late
abbrev pub taken : ℕ → List Taken → Checked → List Taken
taken window past (checked_is.Sealed sci an pn body) =
    if is_late window (next_number past an sci) pn then past
    else record { an = an; sci = sci; pn = pn } ∷ past
taken window past (checked_is.Malformed refusal) = past
taken window past checked_is.Own = past
taken window past (checked_is.Missed an) = past
taken window past checked_is.BadCheck = past

-- the numbers that were accepted under the keys that stand, newest first: an install or a removal
-- ends those of its association number
abbrev pub accepted : Sci → ℕ → List Receiving → List Taken
accepted own window [] = []
accepted own window (installed an secret ∷ h) =
    filter (λ t. not (is_under an t)) (accepted own window h)
accepted own window (removed an ∷ h) = filter (λ t. not (is_under an t)) (accepted own window h)
accepted own window (heard frame ∷ h) =
    taken window (accepted own window h) (checked own (standing_key h) frame)

-- the answer to a frame by what was checked and what was accepted before it
abbrev pub admitted : ℕ → List Taken → Checked → Arrival
admitted window past (checked_is.Malformed refusal) = Malformed refusal
admitted window past checked_is.Own = Own
admitted window past (checked_is.Missed an) = Missed an
admitted window past checked_is.BadCheck = BadCheck
admitted window past (checked_is.Sealed sci an pn body) =
    if is_late window (next_number past an sci) pn then Late (next_number past an sci)
    else Accepted pn body

-- the answer to a frame after a history
abbrev pub answer : Sci → ℕ → List Receiving → List ℕ → Arrival
answer own window h frame =
    admitted window (accepted own window h) (checked own (standing_key h) frame)

-- the frame is accepted
abbrev pub IsAccepted : Arrival → Type 0
IsAccepted (Accepted pn body) = ⊤
IsAccepted (Malformed refusal) = ⊥
IsAccepted Own = ⊥
IsAccepted (Missed an) = ⊥
IsAccepted BadCheck = ⊥
IsAccepted (Late next) = ⊥

-- The lowest acceptable packet number under an association number: the greatest of 1 and of one
-- more than each accepted number less the window, and no more than the last number
abbrev pub lowest : ℕ → List Taken → AssociationNumber → ℕ
lowest window past an =
    min (greatest (map (λ t. (t.pn + 1) - window) (filter (is_under an) past))) (2 ^ 32 - 1)

-- that of one sender, whose next number this is
abbrev pub lowest_for : ℕ → ℕ → ℕ
lowest_for window next = min (max 1 (next - window)) (2 ^ 32 - 1)
