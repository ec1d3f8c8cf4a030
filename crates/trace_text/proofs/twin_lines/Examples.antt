-- Definitions at worked lines.
use Rattle.std.proofs.Common.{◌≡◌, [], ◌∷◌, replicate, refl}
use Rattle.std.specs.Prelude.{codes, Ok, Err, Some, None}
use Rattle.hex.proofs.OnLiterals.{hex_on_literals}
use Rattle.trace_text.specs.declared.fault.TextFault.TheVariants.{TooLong, Word, Count, Hex, Range}
use Rattle.trace_text.specs.declared.line.Line.TheVariants.{DrawsCount, Tick, TickOne, Restart}
use Rattle.trace_text.specs.Keywords.{keyword_of}
use Rattle.trace_text.specs.declared.twin.line.RollLine.TheVariants.{Plain, Group2, Adopt, Leave}
use Rattle.trace_text.specs.twin.InForm.{IsInFormRoll}
use Rattle.trace_text.specs.twin.Reading.{roll_line_in}
use Rattle.trace_text.proofs.twin_lines.InForm.{roll_read_fits}

empty : roll_line_in (codes " \t") ≡ Ok None
unfolding roll_line_in keyword_of
empty = refl

comment : roll_line_in (codes "  #lag 5") ≡ Ok None
unfolding roll_line_in keyword_of
comment = refl

-- lines that a trace of one group has too
restarts : roll_line_in (codes "restart A") ≡ Ok (Some (Plain (Restart (codes "A"))))
unfolding roll_line_in keyword_of
restarts = refl

restart_fits : IsInFormRoll (Plain (Restart (codes "A")))
restart_fits = roll_read_fits (codes "restart A") (Plain (Restart (codes "A"))) restarts

counted : roll_line_in (codes "draws count") ≡ Ok (Some (Plain DrawsCount))
unfolding roll_line_in keyword_of
counted = refl

rounds : roll_line_in (codes " tick\t0000000005 ") ≡ Ok (Some (Plain (Tick 5)))
unfolding roll_line_in keyword_of
rounds = refl

one_station : roll_line_in (codes "tick A 1000000") ≡ Ok (Some (Plain (TickOne (codes "A") 1000000)))
unfolding roll_line_in keyword_of
one_station = refl

no_ticks : roll_line_in (codes "tick A 0") ≡ Err Range
unfolding roll_line_in keyword_of
no_ticks = refl

-- first words that only a trace of one group has, or none
lags : roll_line_in (codes "lag 1") ≡ Err Word
unfolding roll_line_in keyword_of
lags = refl

lags_by_nothing : roll_line_in (codes "lag") ≡ Err Word
unfolding roll_line_in keyword_of
lags_by_nothing = refl

races : roll_line_in (codes "race") ≡ Err Word
unfolding roll_line_in keyword_of
races = refl

spreads : roll_line_in (codes "spread 1") ≡ Err Word
unfolding roll_line_in keyword_of
spreads = refl

third_group : roll_line_in (codes "group3 00 00") ≡ Err Word
unfolding roll_line_in keyword_of
third_group = refl

-- the second group: digits of either case, and words before what they say
second : roll_line_in (codes "group2 000102030405060708090a0B0C0D0E0F 01020304") ≡ Ok (Some (Group2 (0 ∷ 1 ∷ 2 ∷ 3 ∷ 4 ∷ 5 ∷ 6 ∷ 7 ∷ 8 ∷ 9 ∷ 10 ∷ 11 ∷ 12 ∷ 13 ∷ 14 ∷ 15 ∷ []) (1 ∷ 2 ∷ 3 ∷ 4 ∷ [])))
unfolding roll_line_in keyword_of hex_on_literals
second = refl

of_15_octets : roll_line_in (codes "group2 000102030405060708090a0b0c0d0e 01020304") ≡ Err Hex
unfolding roll_line_in keyword_of hex_on_literals
of_15_octets = refl

no_key_name : roll_line_in (codes "group2 xx") ≡ Err Count
unfolding roll_line_in keyword_of hex_on_literals
no_key_name = refl

-- a station takes part in the second group
adopts : roll_line_in (codes "adopt B") ≡ Ok (Some (Adopt (codes "B")))
unfolding roll_line_in keyword_of
adopts = refl

adopts_nothing : roll_line_in (codes "adopt") ≡ Err Count
unfolding roll_line_in keyword_of
adopts_nothing = refl

adopts_no_name : roll_line_in (codes "adopt 2") ≡ Err Range
unfolding roll_line_in keyword_of
adopts_no_name = refl

-- a group's number is any of 32 bits
leaves : roll_line_in (codes "leave 3 B") ≡ Ok (Some (Leave 3 (codes "B")))
unfolding roll_line_in keyword_of
leaves = refl

leave_fits : IsInFormRoll (Leave 3 (codes "B"))
leave_fits = roll_read_fits (codes "leave 3 B") (Leave 3 (codes "B")) leaves

leaves_the_greatest : roll_line_in (codes "leave 4294967295 B") ≡ Ok (Some (Leave 4294967295 (codes "B")))
unfolding roll_line_in keyword_of
leaves_the_greatest = refl

leaves_a_greater : roll_line_in (codes "leave 4294967296 B") ≡ Err Range
unfolding roll_line_in keyword_of
leaves_a_greater = refl

leaves_no_number : roll_line_in (codes "leave x B") ≡ Err Range
unfolding roll_line_in keyword_of
leaves_no_number = refl

leaves_nobody : roll_line_in (codes "leave 1") ≡ Err Count
unfolding roll_line_in keyword_of
leaves_nobody = refl

-- a line of 4,096 octets, and one of 4,097
longest : roll_line_in (replicate 4096 32) ≡ Ok None
unfolding roll_line_in keyword_of
longest = refl

too_long : roll_line_in (replicate 4097 32) ≡ Err TooLong
unfolding roll_line_in keyword_of
too_long = refl
