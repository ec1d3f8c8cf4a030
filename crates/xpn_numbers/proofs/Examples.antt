-- The definitions, computed.
use Rattle.std.proofs.Common.{◌≡◌, ℕ, List, [], ◌∷◌, ◌++◌, map, replicate, Some, None, refl}
use Rattle.lan_base.specs.declared.address.Mi.{Mi}
use Rattle.lan_base.specs.declared.address.Sci.{Sci}
use Rattle.lan_base.specs.declared.key_id.KeyId.{KeyId}
use Rattle.xpn_numbers.specs.declared.candidate.Candidate.{Candidate}
use Rattle.xpn_numbers.specs.declared.candidate.Tried.{Tried}
use Rattle.xpn_numbers.specs.declared.form.Beginning.{Beginning}
use Rattle.xpn_numbers.specs.declared.form.Form.{Form}
use Rattle.xpn_numbers.specs.declared.form.Sscis.TheVariants.{One, UpTo}
use Rattle.xpn_numbers.specs.declared.place.Place.{Place}
use Rattle.xpn_numbers.specs.declared.place.Places.{Places}
use Rattle.xpn_numbers.specs.declared.shown.ShownHighs.{ShownHighs}
use Rattle.xpn_numbers.specs.History.{Entry, Right, Gave, Spoke, first_key, places, spoken}
use Rattle.xpn_numbers.specs.Candidates.{candidates, highs, in_turn, sscis_of, shown}

abbrev mi : ℕ → Mi
mi n = record { 0 = replicate 11 0 ++ n ∷ [] }

abbrev sender : Sci
sender = record { 0 = 2 ∷ 0 ∷ 0 ∷ 0 ∷ 0 ∷ 0x0a ∷ 0 ∷ 1 ∷ [] }

abbrev other_sender : Sci
other_sender = record { 0 = 2 ∷ 0 ∷ 0 ∷ 0 ∷ 0 ∷ 0x0b ∷ 0 ∷ 1 ∷ [] }

abbrev at_place : ℕ → ℕ → Place
at_place ssci high = record { ssci = ssci; high = high }

abbrev salt : List ℕ
salt = 0xa0 ∷ 0xa1 ∷ 0xa2 ∷ 0xa3 ∷ 0xa4 ∷ 0xa5 ∷ 0xa6 ∷ 0xa7 ∷ 0xa8 ∷ 0xa9 ∷ 0xaa ∷ 0xab ∷ []

-- ---- where right frames stood

abbrev heard : List Entry
heard = Right 1 other_sender (at_place 2 9) ∷ Right 1 sender (at_place 7 5) ∷ Right 2 sender (at_place 7 8) ∷ Right 1 sender (at_place 7 4) ∷ []

first_and_last : places 1 sender heard ≡ Some (record { first = at_place 7 4; last = at_place 7 5 })
first_and_last = refl

of_no_other_key : places 2 sender heard ≡ Some (record { first = at_place 7 8; last = at_place 7 8 })
of_no_other_key = refl

of_no_other_sender : places 1 other_sender heard ≡ Some (record { first = at_place 2 9; last = at_place 2 9 })
of_no_other_sender = refl

of_no_frame : places 3 sender heard ≡ None
of_no_frame = refl

-- ---- high halves, in turn and each once

abbrev set : List Beginning
set = record { salt = salt; ssci = 7; high = 3 } ∷ record { salt = salt; ssci = 8; high = 40 } ∷ record { salt = replicate 12 0; ssci = 7; high = 50 } ∷ []

from_five : highs (places 1 sender heard) set (6 ∷ 20 ∷ []) salt 7 ≡ 5 ∷ 6 ∷ 4 ∷ 0 ∷ 3 ∷ 7 ∷ 20 ∷ 21 ∷ []
from_five = refl

of_no_frame_yet : highs None set [] salt 7 ≡ 0 ∷ 3 ∷ 4 ∷ []
of_no_frame_yet = refl

with_nothing : highs None [] [] salt 7 ≡ 0 ∷ []
with_nothing = refl

-- none is below 0, and none above the greatest
at_the_ends : highs (Some (record { first = at_place 7 0; last = at_place 7 4294967295 })) [] [] salt 7 ≡ 4294967295 ∷ 4294967294 ∷ 0 ∷ []
at_the_ends = refl

from_zero : highs (Some (record { first = at_place 7 0; last = at_place 7 0 })) [] [] salt 7 ≡ 0 ∷ 1 ∷ []
from_zero = refl

-- ---- short SCIs, that of the last frame first

four_in_turn : in_turn (Some (record { first = at_place 1 0; last = at_place 3 0 })) (sscis_of (UpTo 4)) ≡ 3 ∷ 1 ∷ 2 ∷ 4 ∷ []
four_in_turn = refl

four_ascending : in_turn None (sscis_of (UpTo 4)) ≡ 1 ∷ 2 ∷ 3 ∷ 4 ∷ []
four_ascending = refl

-- one that the form doesn't have is not tried
the_one : in_turn (Some (record { first = at_place 1 0; last = at_place 3 0 })) (sscis_of (One 7)) ≡ 7 ∷ []
the_one = refl

-- ---- what members show

abbrev id : ℕ → KeyId
id n = record { server = mi 1; number = n }

abbrev showing : ℕ → ℕ → ShownHighs
showing n high = record { latest = Some (record { id = id n; high = high }); old = None }

abbrev silent : ShownHighs
silent = record { latest = None; old = None }

abbrev told : List Entry
told = Spoke 1 (mi 9) 2000000000 (showing 1 12) ∷ Spoke 1 (mi 3) 1000000000 (showing 1 11) ∷ Gave 1 (id 1) 2 ∷ Gave 1 (id 1) 1 ∷ []

-- the first SAK of the identifier counts
first_sak : first_key 1 (id 1) told ≡ Some 1
first_sak = refl

-- by the order of members, not of their words
two_show : shown told 1 3000000000 ≡ 11 ∷ 12 ∷ []
two_show = refl

none_of_another_key : shown told 2 3000000000 ≡ []
none_of_another_key = refl

-- 6 s after the earlier word
one_is_old : shown told 1 7000000000 ≡ 12 ∷ []
one_is_old = refl

-- a later word without high halves takes the earlier back
taken_back : shown (Spoke 1 (mi 9) 2500000000 silent ∷ told) 1 3000000000 ≡ 11 ∷ []
taken_back = refl

in_its_group_alone : shown (Spoke 2 (mi 9) 2500000000 (showing 1 77) ∷ told) 1 3000000000 ≡ 11 ∷ 12 ∷ []
in_its_group_alone = refl

-- ---- the list

abbrev tried : Tried
tried = record { key = 1; sci = sender; pn = 1; nanos = 0 }

abbrev by_hand : List Form
by_hand = record { clear = 0; salted = Some (record { salt = salt; sscis = One 7 }) } ∷ record { clear = 0; salted = None } ∷ []

abbrev iv_of : Candidate → List ℕ
iv_of c = c.iv

-- the form without a salt first; then the number of 64 bits by its high half
two_ivs : map iv_of (candidates [] tried by_hand []) ≡ (2 ∷ 0 ∷ 0 ∷ 0 ∷ 0 ∷ 0x0a ∷ 0 ∷ 1 ∷ 0 ∷ 0 ∷ 0 ∷ 1 ∷ [])
    ∷ (0xa0 ∷ 0xa1 ∷ 0xa2 ∷ 0xa4 ∷ 0xa4 ∷ 0xa5 ∷ 0xa6 ∷ 0xa7 ∷ 0xa8 ∷ 0xa9 ∷ 0xaa ∷ 0xaa ∷ []) ∷ []
two_ivs = refl

-- behind a right frame of the high half 0 a lap more is tried
a_lap_more : map (λ (c : Candidate). c.xpn) (candidates (Right 1 sender (at_place 7 0) ∷ []) tried by_hand [])
    ≡ None ∷ Some (record { ssci = 7; number = 1 }) ∷ Some (record { ssci = 7; number = 4294967297 }) ∷ []
a_lap_more = refl
