-- Definitions at worked lines.
use Rattle.std.proofs.Common.{◌≡◌, ◌≤◌, true, false, [], ◌∷◌, length, replicate, refl, sym, subst, arith}
use Rattle.std.specs.Prelude.{codes, Ok, Err, Some, None}
use Rattle.std.specs.Fmt.{digits}
use Rattle.hex.proofs.OnLiterals.{hex_on_literals}
use Rattle.trace_text.specs.declared.fault.TextFault.TheVariants.{TooLong, Word, Count, Hex, Range}
use Rattle.trace_text.specs.declared.line.Line.TheVariants.{DrawsCount, DrawsList, Flag, Station, Tick, TickOne, Feed}
use Rattle.trace_text.specs.Words.{words_of}
use Rattle.trace_text.specs.Keywords.{keyword_of}
use Rattle.trace_text.specs.Reading.{line_in}
use Rattle.trace_text.specs.Writing.{written, IsInForm}
use Rattle.trace_text.proofs.InForm.{read_fits}

words : words_of (codes "\t tick  A\t5 ") ≡ codes "tick" ∷ codes "A" ∷ codes "5" ∷ []
words = refl

empty : line_in (codes " \t") ≡ Ok None
unfolding line_in keyword_of
empty = refl

comment : line_in (codes "  #tick 5") ≡ Ok None
unfolding line_in keyword_of
comment = refl

rounds : line_in (codes " tick\t0000000005 ") ≡ Ok (Some (Tick 5))
unfolding line_in keyword_of
rounds = refl

one_station : line_in (codes "tick A 1000000") ≡ Ok (Some (TickOne (codes "A") 1000000))
unfolding line_in keyword_of
one_station = refl

too_many_ticks : line_in (codes "tick A 1000001") ≡ Err Range
unfolding line_in keyword_of
too_many_ticks = refl

-- too few and too many words come before what the words say
too_few : line_in (codes "tick") ≡ Err Count
unfolding line_in keyword_of
too_few = refl

too_many : line_in (codes "group xx xx xx") ≡ Err Count
unfolding line_in keyword_of
too_many = refl

unknown : line_in (codes "Tick 5") ≡ Err Word
unfolding line_in keyword_of
unknown = refl

-- `draws` alone has too few words, and no form begins with `draws` and another word
draws_alone : line_in (codes "draws") ≡ Err Count
unfolding line_in keyword_of
draws_alone = refl

draws_what : line_in (codes "draws all 5") ≡ Err Word
unfolding line_in keyword_of
draws_what = refl

draws_counted : line_in (codes "draws count") ≡ Ok (Some DrawsCount)
unfolding line_in keyword_of
draws_counted = refl

draws_of_none : line_in (codes "draws list") ≡ Err Count
unfolding line_in keyword_of
draws_of_none = refl

other_suite : line_in (codes "suite 192") ≡ Err Range
unfolding line_in keyword_of
other_suite = refl

flag_set : line_in (codes "flag 01") ≡ Ok (Some (Flag true))
unfolding line_in keyword_of
flag_set = refl

flag_unset : line_in (codes "flag 0") ≡ Ok (Some (Flag false))
unfolding line_in keyword_of
flag_unset = refl

no_flag : line_in (codes "flag 2") ≡ Err Range
unfolding line_in keyword_of
no_flag = refl

-- the second frame is not below the first
feeds : line_in (codes "feed 10 10 B") ≡ Ok (Some (Feed 10 10 (codes "B")))
unfolding line_in keyword_of
feeds = refl

feeds_backwards : line_in (codes "feed 12 11 B") ≡ Err Range
unfolding line_in keyword_of
feeds_backwards = refl

-- digits of either case; the first faulty word decides
station : line_in (codes "station A 02000000000a00B1 255") ≡ Ok (Some (Station (codes "A") (record { 0 = 2 ∷ 0 ∷ 0 ∷ 0 ∷ 0 ∷ 10 ∷ 0 ∷ 177 ∷ [] }) 255))
unfolding line_in keyword_of hex_on_literals
station = refl

short_sci : line_in (codes "station A 02000000000a 256") ≡ Err Hex
unfolding line_in keyword_of hex_on_literals
short_sci = refl

no_name : line_in (codes "station 1A xyz 256") ≡ Err Range
unfolding line_in keyword_of hex_on_literals
no_name = refl

-- a line of 4,096 octets, and one of 4,097
longest : line_in (replicate 4096 32) ≡ Ok None
unfolding line_in keyword_of
longest = refl

too_long : line_in (replicate 4097 32) ≡ Err TooLong
unfolding line_in keyword_of
too_long = refl

written_station : written (Station (codes "A") (record { 0 = 2 ∷ 0 ∷ 0 ∷ 0 ∷ 0 ∷ 10 ∷ 0 ∷ 177 ∷ [] }) 255) ≡ codes "station A 02000000000a00b1 255"
unfolding written hex_on_literals digits
written_station = refl

written_draws : written (DrawsList (replicate 16 1 ∷ replicate 16 254 ∷ [])) ≡ codes "draws list 01010101010101010101010101010101 fefefefefefefefefefefefefefefefe"
unfolding written hex_on_literals digits
written_draws = refl

-- lines that the law of what is written speaks of: each word is inside its form, and the text is short enough
station_fits : IsInForm (Station (codes "A") (record { 0 = 2 ∷ 0 ∷ 0 ∷ 0 ∷ 0 ∷ 10 ∷ 0 ∷ 177 ∷ [] }) 255)
station_fits = read_fits (codes "station A 02000000000a00B1 255") (Station (codes "A") (record { 0 = 2 ∷ 0 ∷ 0 ∷ 0 ∷ 0 ∷ 10 ∷ 0 ∷ 177 ∷ [] }) 255) station

station_is_short : length (written (Station (codes "A") (record { 0 = 2 ∷ 0 ∷ 0 ∷ 0 ∷ 0 ∷ 10 ∷ 0 ∷ 177 ∷ [] }) 255)) ≤ 4096
station_is_short = subst (λ text. length text ≤ 4096) (sym written_station) (omega arith)
