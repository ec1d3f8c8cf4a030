-- Worked givings and reused packets.
use Rattle.std.proofs.Common.{◌≡◌, ℕ, [], ◌∷◌, Some, None, refl}
use Rattle.lan_base.specs.declared.address.Sci.{Sci}
use Rattle.lan_base.specs.declared.association_number.AssociationNumber.TheVariants.{An0}
use Rattle.mark_notes.specs.declared.giving.Giving.{Giving}
use Rattle.mark_notes.specs.declared.reuse.Reuse.{Reuse}
use Rattle.mark_notes.specs.Marks.{first_giving, reuses_of}

-- the key of this number is given in this packet
abbrev gives : ℕ → ℕ → Giving
gives packet key = record {
  key = key;
  packet = packet;
  group = 1;
  id = record { server = record { 0 = 9 ∷ [] }; number = key };
  an = An0;
}

abbrev sci : ℕ → Sci
sci n = record { 0 = n ∷ [] }

-- a sender reuses a packet number in this packet
abbrev again : ℕ → ℕ → Reuse
again packet n = record { packet = packet; key = 1; sci = sci n; pn = 1; first = 2 }

-- key 1 is given in packets 3 and 8, and key 2 in packet 5
first_one : first_giving (gives 8 1 ∷ gives 5 2 ∷ gives 3 1 ∷ []) 1 ≡ Some (gives 3 1)
first_one = refl

first_two : first_giving (gives 8 1 ∷ gives 5 2 ∷ gives 3 1 ∷ []) 2 ≡ Some (gives 5 2)
first_two = refl

never_given : first_giving (gives 8 1 ∷ gives 5 2 ∷ gives 3 1 ∷ []) 3 ≡ None
never_given = refl

-- those of one sender, the oldest first
of_seven : reuses_of (sci 7) (again 12 7 ∷ again 11 8 ∷ again 10 7 ∷ []) ≡ again 10 7 ∷ again 12 7 ∷ []
of_seven = refl

of_nobody : reuses_of (sci 9) (again 12 7 ∷ again 11 8 ∷ again 10 7 ∷ []) ≡ []
of_nobody = refl
