-- In which turns a run is performed, whatever the source tells (this profile's own rule): what ends in what one
-- read gives is performed and shown before the next one.
use Rattle.std.specs.Prelude.{◌≡◌, ◌⊎◌, ℕ, ◌<◌, List, [], ◌∷◌, ◌++◌, length, take, Option, Some, None}
use Rattle.std.specs.Prelude.{Result, Ok, Err}
use Rattle.lan_base.specs.Faults.{Rose}
use Rattle.lan_base.specs.Told.{after}
use Rattle.text_lines.specs.declared.reading.End.{End}
use Rattle.text_lines.specs.declared.reading.End.TheVariants as ends
use Rattle.text_lines.specs.Texts.{whole_lines}
use Rattle.text_lines.specs.Turns.{TakesTurns}
use Rattle.trace_acts.specs.declared.halt.Halt.{Halt}
use Rattle.trace_acts.specs.declared.halt.Halt.TheVariants as halts
use Rattle.replay.specs.Sinks.{Sunk, Wrote, BrokeOff, WroteSome, joined}
use Rattle.replay.specs.Runs.{most_input, Performing, Shows, WasPerformed, WasHalted, WasCut}

-- what is due of octets, and of what the last read gave behind them: the lines that end in all of it within
-- the limit; and where it gave none, at the end of the text, all of the text
abbrev pub act_due : {Act World : Type 0} → Performing Act World → List ℕ → List ℕ → Act
act_due p octets [] = p.whole octets
act_due p octets (x ∷ xs) = p.lines (whole_lines (take most_input (octets ++ x ∷ xs)))

-- what is due was performed and shown up to a world on the way, or all of a text to its end
abbrev pub WasBrokenIn : {Act World : Type 0} → Performing Act World → (World → Type 0)
    → (List (List ℕ) → Type 0) → Shows World → List ℕ → List ℕ → Type 0
WasBrokenIn p IsSuch Did shows octets piece =
    WasCut p IsSuch Did shows.before (act_due p octets piece)
    ⊎ ((piece ≡ []) × WasPerformed p IsSuch Did shows.at_end (p.whole octets))

-- by why performing what is due halted
abbrev pub HaltsIn : {Act World : Type 0} → Performing Act World → (World → Type 0) → Shows World
    → List ℕ → List ℕ → Sunk → Sunk → Halt → Type 0
HaltsIn p IsSuch shows octets piece old new halts.WriteFault =
    Rose old.faults new.faults
    × WasBrokenIn p IsSuch (λ texts. BrokeOff texts old new) shows octets piece
HaltsIn p IsSuch shows octets piece old new halts.Memory =
    WasBrokenIn p IsSuch (λ texts. WroteSome texts old new) shows octets piece
HaltsIn p IsSuch shows octets piece old new halt =
    WasHalted p IsSuch (λ texts. Wrote texts old new) shows.before (act_due p octets piece) halt

-- By the answer, what was performed of octets, and of what the last read gave behind them, or that it failed;
-- and what was shown.
abbrev pub EndsTurn : {Act World : Type 0} → Performing Act World → (World → Type 0) → Shows World
    → Sunk → Sunk → Result (Unit {0}) (End Halt) → List ℕ → Option (List ℕ) → Type 0
EndsTurn p IsSuch shows old new (Ok done) octets last =
    (last ≡ Some []) × WasPerformed p IsSuch (λ texts. Wrote texts old new) shows.at_end (p.whole octets)
EndsTurn p IsSuch shows old new (Err (ends.Refused halt)) octets last =
    (piece : List ℕ) × (last ≡ Some piece) × HaltsIn p IsSuch shows octets piece old new halt
EndsTurn p IsSuch shows old new (Err ends.Memory) octets last =
    (piece : List ℕ) × (last ≡ Some piece) × HaltsIn p IsSuch shows octets piece old new halts.Memory
EndsTurn p IsSuch shows old new (Err ends.Limit) octets last =
    (piece : List ℕ) × (last ≡ Some piece) × (most_input < length (octets ++ piece))
    × WasPerformed p IsSuch (λ texts. Wrote texts old new) shows.before
    (p.lines (whole_lines (take most_input (octets ++ piece))))
EndsTurn p IsSuch shows old new (Err ends.ReadFault) octets last =
    (last ≡ None) × WasPerformed p IsSuch (λ texts. Wrote texts old new) shows.before
    (p.lines (whole_lines octets))

-- all lines that end in these octets were performed and shown; what was shown later stands behind that
pub record WasShown {Act World : Type 0} (p : Performing Act World) (shows : Shows World) (old new : Sunk)
    (octets : List ℕ) : Type 0 where
  pub world : World
  pub performed : p.Reaches (p.lines (whole_lines octets)) world
  pub more : List ℕ
  pub held : new.held ≡ after old.held (joined (shows.before world) ++ more)

-- A source was replayed in turns: pieces were given, one a read, and all lines that end in them were performed
-- and shown before one more read, at which it ended so.
abbrev pub PlaysInTurn : {S Act World : Type 0} → (S → Option (List ℕ) → S → Type 0) → Performing Act World
    → (World → Type 0) → Shows World → S → S → Sunk → Sunk → Result (Unit {0}) (End Halt) → Type 0
PlaysInTurn Gave p IsSuch shows s s_then old new result =
    TakesTurns Gave (WasShown p shows old new) (EndsTurn p IsSuch shows old new result) s s_then
