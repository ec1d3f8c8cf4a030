-- The definitions at values of an independent program, which was written from the description of the generator.
use Rattle.std.proofs.Common.{◌≡◌, ℕ, ◌-◌, ◌^◌, [], ◌∷◌, List, replicate, refl}
use Rattle.std.specs.Prelude.{codes}
use Rattle.std.specs.Fmt.{digits}
use Rattle.trace_text.specs.declared.line.Line.{Line}
use Rattle.trace_text.specs.declared.line.Line.TheVariants.{Station, TickOne, Flow, Cut, Mend, Restart, Send}
use Rattle.trace_text.specs.Writing.{written}
use Rattle.trace_maker.specs.Generator.{next, after, value}
use Rattle.trace_maker.specs.Made.{stations, chosen, text_of}

-- a step from nothing, and one that passes the end
steps : (next 0 ≡ 1442695040888963407) × (next (2 ^ 64 - 1) ≡ 13525302890751722018)
steps = (refl, refl)

-- the first values, and the states from which the choices go on
values_of_one : (value 1 1 ≡ 908834774) × (value 1 2 ≡ 1093944153) × (value 1 6 ≡ 1074839795) × (after 1 6 ≡ 9232803539723513983)
values_of_one = (refl, refl, refl, refl)

values_of_the_last : (value 9999 1 ≡ 1585633384) × (value 9999 2 ≡ 1676789478) × (value 9999 6 ≡ 295714070) × (after 9999 6 ≡ 2540164525157618205)
values_of_the_last = (refl, refl, refl, refl)

-- the station of a digit and a priority, by its words in the text
abbrev station_of : List ℕ → ℕ → ℕ → Line
station_of name digit priority = Station name (record { 0 = 2 ∷ 0 ∷ 0 ∷ 0 ∷ 0 ∷ digit ∷ 0 ∷ 1 ∷ [] }) priority

stations_of_one : stations 1 ≡ station_of (codes "S1") 1 48 ∷ station_of (codes "S2") 2 32 ∷ station_of (codes "S3") 3 16
    ∷ station_of (codes "S4") 4 48 ∷ station_of (codes "S5") 5 48 ∷ station_of (codes "S6") 6 64 ∷ []
unfolding stations
stations_of_one = refl

stations_of_the_last : stations 9999 ≡ station_of (codes "S1") 1 16 ∷ station_of (codes "S2") 2 48 ∷ station_of (codes "S3") 3 64
    ∷ station_of (codes "S4") 4 64 ∷ station_of (codes "S5") 5 48 ∷ station_of (codes "S6") 6 48 ∷ []
unfolding stations
stations_of_the_last = refl

-- the line that is chosen at a place, from 1, in the trace of a number
abbrev choice_at : ℕ → ℕ → Line
choice_at number place = chosen (value (after number 6) place)

abbrev sent_by : List ℕ → ℕ → Line
sent_by name last = Send name (record { 0 = replicate 6 255 }) (136 ∷ 181 ∷ 0 ∷ last ∷ [])

-- each of the eight choices; behind the last station stands the first
sends : (choice_at 1 8 ≡ sent_by (codes "S1") 13)
    × (choice_at 1 3 ≡ sent_by (codes "S2") 13)
    × (choice_at 1 1 ≡ sent_by (codes "S4") 7)
sends = (refl, refl, refl)

others : (choice_at 1 5 ≡ Flow 12)
    × (choice_at 1 7 ≡ Cut (codes "S2") (codes "S3"))
    × (choice_at 1 47 ≡ Cut (codes "S6") (codes "S1"))
    × (choice_at 1 14 ≡ Mend (codes "S3") (codes "S4"))
    × (choice_at 1 19 ≡ Mend (codes "S6") (codes "S1"))
    × (choice_at 1 2 ≡ Restart (codes "S3"))
    × (choice_at 1 12 ≡ TickOne (codes "S6") 17)
others = (refl, refl, refl, refl, refl, refl, refl)

-- the last choices
last_choices : (choice_at 1 300 ≡ TickOne (codes "S6") 6)
    × (choice_at 9999 300 ≡ sent_by (codes "S5") 1)
last_choices = (refl, refl)

-- four of them as text
in_lines : text_of (choice_at 1 5 ∷ choice_at 1 7 ∷ choice_at 1 2 ∷ choice_at 1 12 ∷ []) ≡ codes "flow 12\ncut S2 S3\nrestart S3\ntick S6 17\n"
unfolding written digits
in_lines = refl
