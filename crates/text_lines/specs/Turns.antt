-- The turns of a reader of lines (this profile's own rule): pieces of a text are given one after the other,
-- and the lines that end in each are handed on before the next one is asked for.
use Rattle.std.specs.Prelude.{◌≡◌, ℕ, ◌-◌, ◌<◌, ◌≤◌, List, [], ◌∷◌, ◌++◌, length, take, Option, Some, None}
use Rattle.std.specs.Prelude.{Result, Ok, Err}
use Rattle.std.specs.List.{flat_map}
use Rattle.text_lines.specs.declared.reading.End.{End}
use Rattle.text_lines.specs.declared.reading.End.TheVariants.{Refused, Memory, ReadFault, Limit}
use Rattle.text_lines.specs.Texts.{ended, open_line, whole_lines, last_line, lines_of}
use Rattle.text_lines.specs.Reading.{TookFront}

-- the octets of pieces
abbrev pub octets_of : List (List ℕ) → List ℕ
octets_of pieces = flat_map (λ piece. piece) pieces

-- what pieces leave open
abbrev pub left_open : List ℕ → List (List ℕ) → List ℕ
left_open begun [] = begun
left_open begun (piece ∷ pieces) = left_open (open_line begun piece) pieces

-- the lines that a piece makes due, of which there is room for so many octets: those that end in them; and
-- at the end of the text, where the piece is empty, the open one
abbrev pub due : ℕ → List ℕ → List ℕ → List (List ℕ)
due room begun [] = last_line begun
due room begun (x ∷ xs) = ended begun (take room (x ∷ xs))

-- these pieces were given, one a read, none of them empty, and the lines that end in each were taken before
-- the next read
abbrev pub Turns : {S T E : Type 0} → (S → Option (List ℕ) → S → Type 0)
    → (List (List ℕ) → T → T → Result (Unit {0}) E → Type 0) → List ℕ → List (List ℕ) → S → S → T → T
    → Type 0
Turns Gave Did begun [] s s_then t t_then = (s_then ≡ s) × (t_then ≡ t)
Turns Gave Did begun ([] ∷ pieces) s s_then t t_then = ⊥
Turns {S = S} {T = T} Gave Did begun ((x ∷ xs) ∷ pieces) s s_then t t_then =
    (between : S) × (told : T) × Gave s (Some (x ∷ xs)) between
    × Did (ended begun (x ∷ xs)) t told (Ok tt)
    × Turns Gave Did (open_line begun (x ∷ xs)) pieces between s_then told t_then

-- one last read, and what was handed on of what it made due: all at the end; as far as the line that
-- was refused; a front, where no memory was left; nothing at a fault; and where it gave more than there
-- was room for, what ends within the room
abbrev pub LastTurn : {S T E : Type 0} → (S → Option (List ℕ) → S → Type 0)
    → (List (List ℕ) → T → T → Result (Unit {0}) E → Type 0) → ℕ → List ℕ → S → S → T → T
    → Result (Unit {0}) (End E) → Type 0
LastTurn Gave Did room begun s s_then t t_then (Ok done) =
    Gave s (Some []) s_then × Did (last_line begun) t t_then (Ok tt)
LastTurn Gave Did room begun s s_then t t_then (Err (Refused e)) =
    (piece : List ℕ) × Gave s (Some piece) s_then × Did (due room begun piece) t t_then (Err e)
LastTurn Gave Did room begun s s_then t t_then (Err Memory) =
    (piece : List ℕ) × Gave s (Some piece) s_then × TookFront Did (due room begun piece) t t_then
LastTurn Gave Did room begun s s_then t t_then (Err ReadFault) = Gave s None s_then × (t_then ≡ t)
LastTurn Gave Did room begun s s_then t t_then (Err Limit) =
    (piece : List ℕ) × Gave s (Some piece) s_then × (room < length piece)
    × Did (ended begun (take room piece)) t t_then (Ok tt)

-- whole turns within a limit, and then a last one
pub record InTurn {S T E : Type 0} (Gave : S → Option (List ℕ) → S → Type 0)
    (Did : List (List ℕ) → T → T → Result (Unit {0}) E → Type 0) (limit : ℕ) (s s_then : S)
    (t t_then : T) (result : Result (Unit {0}) (End E)) : Type 0 where
  pub pieces : List (List ℕ)
  pub within : length (octets_of pieces) ≤ limit
  pub between : S
  pub told : T
  pub turns : Turns Gave Did [] pieces s between t told
  pub last : LastTurn Gave Did (limit - length (octets_of pieces)) (left_open [] pieces) between
      s_then told t_then result

-- ---- turns as those see them who do more with the lines

-- these pieces were given, one a read, none of them empty
abbrev pub AreGiven : {S : Type 0} → (S → Option (List ℕ) → S → Type 0) → List (List ℕ) → S → S
    → Type 0
AreGiven Gave [] s s_then = s_then ≡ s
AreGiven Gave ([] ∷ pieces) s s_then = ⊥
AreGiven {S = S} Gave ((x ∷ xs) ∷ pieces) s s_then =
    (between : S) × Gave s (Some (x ∷ xs)) between × AreGiven Gave pieces between s_then

-- the lines that are due within a limit of octets, and of what the last read gave behind them: those that end
-- in all of it, and where it gave none, at the end of the text, all
abbrev pub lines_due : ℕ → List ℕ → List ℕ → List (List ℕ)
lines_due limit octets [] = lines_of octets
lines_due limit octets (x ∷ xs) = whole_lines (take limit (octets ++ x ∷ xs))

-- Pieces were given, one a read, and of the octets of all of them this held before one more read. By what
-- that gave, or that it failed, it ended so.
pub record TakesTurns {S : Type 0} (Gave : S → Option (List ℕ) → S → Type 0)
    (Held : List ℕ → Type 0) (Ends : List ℕ → Option (List ℕ) → Type 0) (s s_then : S) : Type 0 where
  pub pieces : List (List ℕ)
  pub between : S
  pub given : AreGiven Gave pieces s between
  pub held : Held (octets_of pieces)
  pub last : Option (List ℕ)
  pub gave : Gave between last s_then
  pub ends : Ends (octets_of pieces) last
