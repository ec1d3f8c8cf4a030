-- How a run of a text ends, whoever performs it and whatever is written of it (this profile's own
-- rule). Both a trace of one group and one of two are performed so.
use Rattle.std.specs.Prelude.{◌≡◌, ◌⊎◌, ℕ, ◌<◌, ◌≤◌, nat_le, if◌then◌else◌, List, [], ◌++◌}
use Rattle.std.specs.Prelude.{length, take, Some}
use Rattle.std.specs.Prelude.{Result, Ok, Err}
use Rattle.lan_base.specs.Faults.{Rose}
use Rattle.lan_base.specs.Told.{before, after}
use Rattle.text_lines.specs.declared.reading.End.{End}
use Rattle.text_lines.specs.declared.reading.End.TheVariants as ends
use Rattle.text_lines.specs.Texts.{whole_lines}
use Rattle.text_lines.specs.Reading.{Sourced, most_at_once}
use Rattle.trace_acts.specs.declared.halt.Halt.{Halt}
use Rattle.trace_acts.specs.declared.halt.Halt.TheVariants as halts
use Rattle.replay.specs.Sinks.{Sunk, Wrote, BrokeOff, WroteSome, joined}

-- an input has at most so many octets
abbrev pub most_input : ℕ
most_input = 4194304

-- ---- what performs texts

-- What lines perform, and what all of a text does. From the beginning an act is performed to its end
-- and reaches a world, or stops in one for a reason; and other worlds lie on its way.
pub record Performing (Act World : Type 0) : Type 1 where
  pub lines : List (List ℕ) → Act
  pub whole : List ℕ → Act
  pub Reaches : Act → World → Type 0
  pub Stops : Act → World → Halt → Type 0
  pub Passes : Act → World → Type 0

-- which texts are written of a world, where all of a trace was performed, and where it was not
pub record Shows (World : Type 0) : Type 0 where
  pub at_end : World → List (List ℕ)
  pub before : World → List (List ℕ)

-- what a text performs within the limit: all of one that isn't longer, of another the lines that end
-- there
abbrev pub within : {Act World : Type 0} → Performing Act World → List ℕ → Act
within p text =
    if nat_le (length text) most_input then p.whole text
    else p.lines (whole_lines (take most_input text))

-- ---- which world was reached, and what was written of it

-- this is performed to its end
abbrev pub WasPerformed : {Act World : Type 0} → Performing Act World → (World → Type 0)
    → (List (List ℕ) → Type 0) → (World → List (List ℕ)) → Act → Type 0
WasPerformed {World = World} p IsSuch Did texts act =
    (w : World) × p.Reaches act w × IsSuch w × Did (texts w)

-- it stops for this reason
abbrev pub WasHalted : {Act World : Type 0} → Performing Act World → (World → Type 0)
    → (List (List ℕ) → Type 0) → (World → List (List ℕ)) → Act → Halt → Type 0
WasHalted {World = World} p IsSuch Did texts act halt =
    (w : World) × p.Stops act w halt × IsSuch w × Did (texts w)

-- it comes by this world
abbrev pub WasCut : {Act World : Type 0} → Performing Act World → (World → Type 0)
    → (List (List ℕ) → Type 0) → (World → List (List ℕ)) → Act → Type 0
WasCut {World = World} p IsSuch Did texts act =
    (w : World) × p.Passes act w × IsSuch w × Did (texts w)

-- the text was performed and shown up to a world on the way, or to its end
abbrev pub WasBroken : {Act World : Type 0} → Performing Act World → (World → Type 0)
    → (List (List ℕ) → Type 0) → Shows World → List ℕ → Sourced → Type 0
WasBroken p IsSuch Did shows text now =
    WasCut p IsSuch Did shows.before (within p text)
    ⊎ ((length text ≤ most_input) × (now.left ≡ Some [])
    × WasPerformed p IsSuch Did shows.at_end (p.whole text))

-- ---- how it ends

-- By why performing the text halted. A fault of the sink and want of memory break off what was shown.
-- Where a line is refused, or the text ends where it may not, a limit is reached, a draw repeated or a
-- frame forged, performing the text stops so.
abbrev pub HaltsBy : {Act World : Type 0} → Performing Act World → (World → Type 0) → Shows World
    → List ℕ → Sourced → Sunk → Sunk → Halt → Type 0
HaltsBy p IsSuch shows text now old new halts.WriteFault =
    Rose old.faults new.faults
    × WasBroken p IsSuch (λ texts. BrokeOff texts old new) shows text now
HaltsBy p IsSuch shows text now old new halts.Memory =
    WasBroken p IsSuch (λ texts. WroteSome texts old new) shows text now
HaltsBy p IsSuch shows text now old new halt =
    WasHalted p IsSuch (λ texts. Wrote texts old new) shows.before (within p text) halt

-- By the answer. At the end all of the text was performed and shown. At a fault of the source, and
-- where an octet past the limit was taken, those lines were performed that end in what was taken, or
-- within the limit. Want of memory is the same wherever it comes.
abbrev pub EndsBy : {Act World : Type 0} → Performing Act World → (World → Type 0) → Shows World
    → List ℕ → Sourced → Sourced → Sunk → Sunk → Result (Unit {0}) (End Halt) → Type 0
EndsBy p IsSuch shows text left now old new (Ok done) =
    (length text ≤ most_input) × (now.left ≡ Some [])
    × WasPerformed p IsSuch (λ texts. Wrote texts old new) shows.at_end (p.whole text)
EndsBy p IsSuch shows text left now old new (Err (ends.Refused halt)) =
    HaltsBy p IsSuch shows text now old new halt
EndsBy p IsSuch shows text left now old new (Err ends.Memory) =
    HaltsBy p IsSuch shows text now old new halts.Memory
EndsBy p IsSuch shows text left now old new (Err ends.Limit) =
    (most_input < length text) × WasPerformed p IsSuch (λ texts. Wrote texts old new) shows.before
    (p.lines (whole_lines (take most_input text)))
EndsBy p IsSuch shows text left now old new (Err ends.ReadFault) =
    Rose left.faults now.faults × ((taken : List ℕ) × (left.left ≡ before taken now.left)
    × (length taken ≤ most_input) × WasPerformed p IsSuch (λ texts. Wrote texts old new)
    shows.before (p.lines (whole_lines taken)))

-- Octets were taken: earlier ones, and then a piece that was asked for at once. All lines that end in
-- the earlier ones were performed and shown before that.
pub record IsTakenFrom {Act World : Type 0} (p : Performing Act World) (shows : Shows World)
    (left now : Sourced) (old new : Sunk) : Type 0 where
  pub earlier : List ℕ
  pub piece : List ℕ
  pub moved : left.left ≡ before (earlier ++ piece) now.left
  pub within : length earlier ≤ most_input
  pub at_once : length piece ≤ most_at_once
  pub world : World
  pub performed : p.Reaches (p.lines (whole_lines earlier)) world
  pub more : List ℕ
  pub held : new.held ≡ after old.held (joined (shows.before world) ++ more)

-- a run of this text was shown, and ended so
pub record EndsRun {Act World : Type 0} (p : Performing Act World) (IsSuch : World → Type 0)
    (shows : Shows World) (text : List ℕ) (left now : Sourced) (old new : Sunk)
    (result : Result (Unit {0}) (End Halt)) : Type 0 where
  pub taken : IsTakenFrom p shows left now old new
  pub ends : EndsBy p IsSuch shows text left now old new result

-- a source was replayed: how its text was, if it tells one; and that its faults are those of the
-- outside, whatever that tells
pub record IsReplayed {Act World : Type 0} (p : Performing Act World) (IsSuch : World → Type 0)
    (shows : Shows World) (left now : Sourced) (old new : Sunk)
    (result : Result (Unit {0}) (End Halt)) : Type 0 where
  pub told : (text : List ℕ) → left.left ≡ Some text
      → EndsRun p IsSuch shows text left now old new result
  pub reads : left.faults ≤ now.faults
  pub writes : old.faults ≤ new.faults
  pub read_fault : result ≡ Err ends.ReadFault → Rose left.faults now.faults
  pub write_fault : result ≡ Err (ends.Refused halts.WriteFault) → Rose old.faults new.faults
