-- The trace that is made of a number: a group of six stations that send, flow, cut and mend links,
-- restart and tick as the generator's values say.
use Rattle.std.specs.Prelude.{ℕ, ◌+◌, ◌*◌, ◌/◌, ◌%◌, ◌==◌, nat_lt, if◌then◌else◌, List, [], ◌∷◌, ◌++◌, map, replicate, codes}
use Rattle.std.specs.List.{flat_map, range_with_len}
use Rattle.trace_text.specs.declared.line.Line.{Line}
use Rattle.trace_text.specs.declared.line.Line.TheVariants.{DrawsCount, Rekey, Group, Station, TickOne, Flow, Cut, Mend, Restart, Send}
use Rattle.trace_text.specs.Writing.{written}
use Rattle.trace_maker.specs.Generator.{after, value}

-- the name of the station of a number from 1 to 6: an S and its digit
abbrev pub name_of : ℕ → List ℕ
name_of s = 83 ∷ (48 + s) ∷ []

-- the group's key, 00 to 0f, and its name
abbrev pub group : Line
group = Group (range_with_len 0 16) (codes "make")

-- the line of station s, whose priority is 16, 32, 48 or 64
abbrev pub station : ℕ → ℕ → Line
station s v =
    Station (name_of s) (record { 0 = 2 ∷ 0 ∷ 0 ∷ 0 ∷ 0 ∷ s ∷ 0 ∷ 1 ∷ [] }) (16 + 16 * (v % 4))

-- user data for everybody, whose last octet is n
abbrev pub sending : List ℕ → ℕ → Line
sending name n = Send name (record { 0 = replicate 6 255 }) (136 ∷ 181 ∷ 0 ∷ n ∷ [])

-- one of eight choices: stations s and t, and a number n
abbrev pub choice : ℕ → ℕ → ℕ → ℕ → Line
choice d s t n =
    if nat_lt d 3 then sending (name_of s) n
    else if d == 3 then Flow n
    else if d == 4 then Cut (name_of s) (name_of t)
    else if d == 5 then Mend (name_of s) (name_of t)
    else if d == 6 then Restart (name_of s)
    else TickOne (name_of s) n

-- the station that a value chooses, and the one behind it
abbrev pub chosen_station : ℕ → ℕ
chosen_station v = (v / 8) % 6 + 1

-- the line that a value chooses
abbrev pub chosen : ℕ → Line
chosen v = choice (v % 8) (chosen_station v) (chosen_station v % 6 + 1) ((v / 64) % 20 + 1)

-- the stations' lines, from a state on
unfoldable pub stations : ℕ → List Line
stations x = map (λ i. station (i + 1) (value x (i + 1))) (range_with_len 0 6)

-- the lines that are chosen, from a state on
unfoldable pub choices : ℕ → List Line
choices x = map (λ i. chosen (value x (i + 1))) (range_with_len 0 300)

-- lines as text: a line feed ends each
abbrev pub text_of : List Line → List ℕ
text_of lines = flat_map (λ line. written line ++ 10 ∷ []) lines

-- the lines that stand first
abbrev pub head : List Line
head = DrawsCount ∷ group ∷ Rekey 40 ∷ []

-- the text that is made of a number; the choices go on where the six stations' values end
unfoldable pub made : ℕ → List ℕ
made number =
    text_of (head ++ stations number ++ Flow 40 ∷ [] ++ choices (after number 6) ++ Flow 100 ∷ [])
