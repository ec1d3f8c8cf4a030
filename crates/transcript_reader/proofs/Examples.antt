-- Worked examples: the form of a line, its group and text, and the places of stations.
use Rattle.std.proofs.Common.{◌≡◌, [], ◌∷◌, refl}
use Rattle.std.specs.Prelude.{Some, None, codes}
use Rattle.lan_core.specs.declared.fact.Fact.TheVariants.{Ticked}
use Rattle.transcript_reader.specs.declared.form.Form.TheVariants.{OneGroup, TwoGroups}
use Rattle.transcript_reader.specs.declared.group.Group.TheVariants.{First, Second}
use Rattle.transcript_reader.specs.Time.{ticks}
use Rattle.transcript_reader.specs.Forms.{form_of, form_then, marked, parted, placed, station_of}

-- a number stands alone before one space
marked_second : marked (codes "2 tick A 1 next 0") ≡ Some (Second, codes "tick A 1 next 0")
marked_second = refl

marked_first : marked (codes "1 ") ≡ Some (First, [])
marked_first = refl

not_marked : marked (codes "12 tick") ≡ None
not_marked = refl

no_third : marked (codes "3 tick") ≡ None
no_third = refl

-- the first line chooses, and no later one
of_one_group : form_of (codes "life A 00") ≡ OneGroup
of_one_group = refl

two_groups : form_then None (codes "1 life A 00") ≡ TwoGroups
two_groups = refl

stays_so : form_then (Some OneGroup) (codes "1 life A 00") ≡ OneGroup
stays_so = refl

-- so in a text of one group a line with a number is read with it, and in one of two each line needs one
whole_line : parted OneGroup (codes "1 tick") ≡ Some (First, codes "1 tick")
whole_line = refl

needs_a_number : parted TwoGroups (codes "tick A 1 next 0") ≡ None
needs_a_number = refl

-- the second station, in either group
place_in_the_first : placed First (Ticked 1 7 0) ≡ Ticked 1 7 0
place_in_the_first = refl

place_in_the_second : placed Second (Ticked 1 7 0) ≡ Ticked 17 7 0
place_in_the_second = refl

one_station : station_of 17 ≡ 1
one_station = refl

-- the first station ticks in the first group, in both, and then in the second alone; another one in between
one_group_and_both : ticks (Ticked 0 1 0 ∷ Ticked 0 2 0 ∷ Ticked 16 1 0 ∷ Ticked 1 1 0 ∷ []) ≡ 2
one_group_and_both = refl

goes_on_in_the_second : ticks (Ticked 0 1 0 ∷ Ticked 16 1 0 ∷ Ticked 16 2 0 ∷ Ticked 17 1 0 ∷ Ticked 16 3 0 ∷ []) ≡ 3
goes_on_in_the_second = refl
