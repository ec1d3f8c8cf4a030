-- Right MKPDUs of a capture, newest first: which are of one member, and what a further one is behind
-- them.
use Rattle.std.specs.Prelude.{ℕ, ◌==◌, ◌&&◌, nat_lt, Bool, true, if◌then◌else◌, nat_eq, List, [], ◌∷◌, filter, Option, Some, None}
use Rattle.std.specs.Option.{option_or}
use lib.Pointwise.{pointwise}
use Rattle.lan_base.specs.declared.address.Mi.{Mi}
use Rattle.lan_base.specs.Identifiers.{same_mi}
use Rattle.member_notes.specs.declared.mkpdu.RightMkpdu.{RightMkpdu}
use Rattle.member_notes.specs.declared.mkpdu.First.{First}
use Rattle.member_notes.specs.declared.novelty.MkpduNovelty.{MkpduNovelty}
use Rattle.member_notes.specs.declared.novelty.MkpduNovelty.TheVariants.{New, Fell, Again}

abbrev pub is_of : ℕ → Mi → RightMkpdu → Bool
is_of group mi e = (e.group == group) && same_mi e.mi mi

-- the right MKPDUs of a member: of a group, under an MI
abbrev pub mkpdus_of : ℕ → Mi → List RightMkpdu → List RightMkpdu
mkpdus_of group mi h = filter (is_of group mi) h

abbrev pub note_of : RightMkpdu → First
note_of e = record { packet = e.packet; check = e.check }

abbrev pub note_here : ℕ → RightMkpdu → Option First
note_here mn e = if e.mn == mn then Some (note_of e) else None

-- of MKPDUs of one member, the first with this message number
abbrev pub first_of : ℕ → List RightMkpdu → Option First
first_of mn [] = None
first_of mn (e ∷ ms) = option_or (first_of mn ms) (note_here mn e)

abbrev pub same_check : List ℕ → List ℕ → Bool
same_check a b = pointwise nat_eq a b

-- whether a message number is above those of all of these
abbrev pub is_above : ℕ → List RightMkpdu → Bool
is_above mn [] = true
is_above mn (e ∷ ms) = nat_lt e.mn mn && is_above mn ms

abbrev pub risen : Bool → MkpduNovelty
risen above = if above then New else Fell

-- an MKPDU behind the first one with its message number, where that is above all of its member or not
abbrev pub novelty_after : Option First → Bool → RightMkpdu → MkpduNovelty
novelty_after None above e = risen above
novelty_after (Some first) above e =
    if same_check first.check e.check then Again first.packet else risen above

-- what an MKPDU is behind those of its member
abbrev pub novelty : List RightMkpdu → RightMkpdu → MkpduNovelty
novelty ms e = novelty_after (first_of e.mn ms) (is_above e.mn ms) e

-- what it is behind all right ones before it
abbrev pub novelty_in : List RightMkpdu → RightMkpdu → MkpduNovelty
novelty_in h e = novelty (mkpdus_of e.group e.mi h) e
