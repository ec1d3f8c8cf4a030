-- Worked captures of some MKPDUs.
use Rattle.std.proofs.Common.{◌≡◌, ℕ, List, [], ◌∷◌, refl}
use Rattle.lan_base.specs.declared.address.Mi.{Mi}
use Rattle.member_notes.specs.declared.mkpdu.RightMkpdu.{RightMkpdu}
use Rattle.member_notes.specs.declared.novelty.MkpduNovelty.TheVariants.{New, Fell, Again}
use Rattle.member_notes.specs.Mkpdus.{novelty_in}

abbrev mi : ℕ → Mi
mi n = record { 0 = n ∷ [] }

-- packet, group, member, message number, and check value of one octet
abbrev mkpdu : ℕ → ℕ → ℕ → ℕ → ℕ → RightMkpdu
mkpdu packet group member mn check =
    record { packet = packet; group = group; mi = mi member; mn = mn; check = check ∷ [] }

-- member 7 of group 1 sends 1, 2 and 5, and member 8 sends 3
abbrev four : List RightMkpdu
four = mkpdu 4 1 7 5 40 ∷ mkpdu 3 1 8 3 30 ∷ mkpdu 2 1 7 2 20 ∷ mkpdu 1 1 7 1 10 ∷ []

-- the first of a member
first : novelty_in [] (mkpdu 1 1 7 9 10) ≡ New
first = refl

next : novelty_in four (mkpdu 5 1 7 6 50) ≡ New
next = refl

-- of another member, and of the same MI in another group
other_member : novelty_in four (mkpdu 5 1 9 1 50) ≡ New
other_member = refl

other_group : novelty_in four (mkpdu 5 2 7 1 50) ≡ New
other_group = refl

-- a number that was passed over
late : novelty_in four (mkpdu 5 1 7 4 50) ≡ Fell
late = refl

-- the octets of an earlier one, and other ones under its number
again : novelty_in four (mkpdu 5 1 7 2 20) ≡ Again 2
again = refl

other_octets : novelty_in four (mkpdu 5 1 7 2 50) ≡ Fell
other_octets = refl

-- the greatest number with other octets
other_last : novelty_in four (mkpdu 5 1 7 5 50) ≡ Fell
other_last = refl

-- it is the first with a number that counts
other_twice : novelty_in (mkpdu 5 1 7 2 50 ∷ four) (mkpdu 6 1 7 2 50) ≡ Fell
other_twice = refl

first_again : novelty_in (mkpdu 5 1 7 2 50 ∷ four) (mkpdu 6 1 7 2 20) ≡ Again 2
first_again = refl
