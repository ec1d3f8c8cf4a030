-- The definitions, computed.
use Rattle.std.proofs.Common.{◌≡◌, ◌-◌, ◌^◌, true, false, List, [], ◌∷◌, Some, None, refl}
use Rattle.aes_block.specs.declared.secret.Secret.{Secret}
use Rattle.lan_base.specs.declared.association_number.AssociationNumber.TheVariants.{An0, An1, An2, An3}
use Rattle.lan_base.specs.declared.address.Sci.{Sci}
use Rattle.rx_slots.specs.declared.arrival.Checked.TheVariants.{BadCheck, Sealed}
use Rattle.rx_slots.specs.declared.arrival.Arrival.TheVariants as arrival_is
use Rattle.rx_slots.specs.Histories.{installed, removed, heard, standing_key}
use Rattle.rx_slots.specs.Numbers.{Taken, is_late, next_number, taken, admitted, lowest}

abbrev a : Sci
a = record { 0 = 2 ∷ 0 ∷ 0 ∷ 0 ∷ 0 ∷ 10 ∷ 0 ∷ 1 ∷ [] }

abbrev b : Sci
b = record { 0 = 2 ∷ 0 ∷ 0 ∷ 0 ∷ 0 ∷ 11 ∷ 0 ∷ 1 ∷ [] }

-- a key stands until it is replaced or removed; those under other numbers stay
the_last_install : (k l : Secret) → standing_key (heard [] ∷ installed An1 l ∷ installed An1 k ∷ []) An1 ≡ Some l
the_last_install k l = refl

a_removal : (k l : Secret) → standing_key (removed An1 ∷ installed An1 l ∷ installed An0 k ∷ []) An1 ≡ None
a_removal k l = refl

another_number : (k l : Secret) → standing_key (removed An1 ∷ installed An1 l ∷ installed An0 k ∷ []) An0 ≡ Some k
another_number k l = refl

-- numbers 5 and 3 of A, 9 of B, and 20 of A under another association number
abbrev past : List Taken
past =
    record { an = An0; sci = a; pn = 5 } ∷ record { an = An1; sci = a; pn = 20 } ∷ record { an = An0; sci = b; pn = 9 }
    ∷ record { an = An0; sci = a; pn = 3 } ∷ []

next_of_a : next_number past An0 a ≡ 6
next_of_a = refl

next_of_b : next_number past An0 b ≡ 10
next_of_b = refl

next_under_nothing : next_number past An2 a ≡ 1
next_under_nothing = refl

accepted_again : admitted 1 past (Sealed a An0 5 (7 ∷ [])) ≡ arrival_is.Accepted 5 (7 ∷ [])
accepted_again = refl

late : admitted 0 past (Sealed a An0 5 (7 ∷ [])) ≡ arrival_is.Late 6
late = refl

late_by_more_than_the_window : admitted 1 past (Sealed a An0 4 (7 ∷ [])) ≡ arrival_is.Late 6
late_by_more_than_the_window = refl

-- number 0 is late whatever the window
number_0 : admitted 9 [] (Sealed a An0 0 (7 ∷ [])) ≡ arrival_is.Late 1
number_0 = refl

nothing_of_a_late_frame : taken 0 past (Sealed a An0 5 (7 ∷ [])) ≡ past
nothing_of_a_late_frame = refl

nothing_of_a_bad_check : taken 0 past BadCheck ≡ past
nothing_of_a_bad_check = refl

-- the last number is late after itself, and isn't within a window of one
the_last_number : is_late 0 (2 ^ 32) (2 ^ 32 - 1) ≡ true
the_last_number = refl

the_last_number_in_a_window : is_late 1 (2 ^ 32) (2 ^ 32 - 1) ≡ false
the_last_number_in_a_window = refl

-- the greatest of 6 and 10, less the window, at least 1
lowest_of_both : lowest 0 past An0 ≡ 10
lowest_of_both = refl

lowest_with_a_window : lowest 4 past An0 ≡ 6
lowest_with_a_window = refl

lowest_with_a_wide_window : lowest 100 past An0 ≡ 1
lowest_with_a_wide_window = refl

lowest_of_nothing : lowest 0 past An3 ≡ 1
lowest_of_nothing = refl

-- no more than the last number
lowest_after_the_last : lowest 0 (record { an = An0; sci = a; pn = 2 ^ 32 - 1 } ∷ []) An0 ≡ 2 ^ 32 - 1
lowest_after_the_last = refl
