-- How the program ends after a transcript was drawn.
use Rattle.std.proofs.Common.{◌≡◌, ◌<◌, ◌≤◌, ℕ, List, [], ◌∷◌, length, take, Ok, Err, inr, refl, subst}
use Rattle.lan_base.specs.declared.sink.Unwritten.{Unwritten}
use Rattle.lan_base.specs.declared.sink.Unwritten.TheVariants as whys
use Rattle.lan_base.specs.Faults.{Rose}
use Rattle.lan_base.specs.Told.{after}
use Rattle.text_lines.specs.Reading.{Sourced}
use Rattle.transcript_check.specs.declared.fault.CheckFault.{CheckFault}
use Rattle.text_lines.specs.declared.unfinished.Unfinished.{Unfinished}
use Rattle.text_lines.specs.declared.unfinished.Unfinished.TheVariants as ends
use Rattle.transcript_picture.specs.Transcripts.{EndsDrawing}
use Rattle.transcript_picture.proofs.Public.{not-drawn}
use Rattle.replay.specs.Sinks.{Sunk, BrokeOff}
use Rattle.replay.proofs.Public.{broke-one}
use Rattle.rollover_program.specs.declared.status.Status.{Status}
use Rattle.rollover_program.specs.declared.status.Status.TheVariants.{Usage, ReadFault, WriteFault, Memory}
use Rattle.rollover_program.specs.commands.Draw.{EndsAsDraw, Shows}
use Rattle.rollover_program.specs.inside.Answering.{status_of_unwritten}

-- nothing was done, for want of memory
pub not_drawn : (text : List ℕ) (left : Sourced) (old : Sunk)
    → EndsAsDraw text left left old old Memory
not_drawn text left old = inr (ends.Memory, not-drawn text left, refl, refl)

-- what the call answers is its octets or why it answers none
pub as-octets : {X Y : Type 0} (text : List ℕ) (left now : Sourced) (x : X) (y : Y)
    → EndsDrawing text left now (Ok x) → EndsDrawing text left now (Ok y)
as-octets text left now x y d = record { taken = d.taken; ends = d.ends }

pub as-refused : {X Y : Type 0} (text : List ℕ) (left now : Sourced) (why : Unfinished CheckFault)
    → EndsDrawing {X = X} text left now (Err why) → EndsDrawing {X = Y} text left now (Err why)
as-refused {X} {Y} text left now why d = go why d
  where
    go : (why : Unfinished CheckFault) → EndsDrawing {X = X} text left now (Err why) → EndsDrawing {X = Y} text left now (Err why)
    go (ends.Refused line fault) d = record { taken = d.taken; ends = d.ends }
    go ends.WriteFault d = record { taken = d.taken; ends = d.ends }
    go ends.Memory d = record { taken = d.taken; ends = d.ends }
    go ends.ReadFault d = record { taken = d.taken; ends = d.ends }
    go ends.Limit d = record { taken = d.taken; ends = d.ends }

-- ---- a picture

-- a part of it was written
pub shows_part : (picture : List ℕ) (old new : Sunk) (why : Unwritten)
    → ((n : ℕ) × (n < length picture) × (new.held ≡ after old.held (take n picture)))
    → old.faults ≤ new.faults → (why ≡ whys.Failed → Rose old.faults new.faults)
    → Shows picture old new (status_of_unwritten why)
shows_part picture old new why part counts failed = go why failed
  where
    broke : BrokeOff (picture ∷ []) old new
    broke = broke-one picture part.0 old new part.1 part.2 counts

    go : (why : Unwritten) → (why ≡ whys.Failed → Rose old.faults new.faults)
        → Shows picture old new (status_of_unwritten why)
    go whys.Failed failed = (failed refl, broke)
    go whys.Memory failed = broke

pub shows_usage : (picture : List ℕ) (old new : Sunk) (status : Status)
    → Shows picture old new status → status ≡ Usage → ⊥
shows_usage picture old new status shows e =
    let usage = subst (λ (s : Status). Shows picture old new s) e shows in cc usage.0

pub shows_read_fault : (picture : List ℕ) (old new : Sunk) (status : Status)
    → Shows picture old new status → status ≡ ReadFault → ⊥
shows_read_fault picture old new status shows e =
    let fault = subst (λ (s : Status). Shows picture old new s) e shows in cc fault.0

pub shows_write_fault : (picture : List ℕ) (old new : Sunk) (status : Status)
    → Shows picture old new status → status ≡ WriteFault → Rose old.faults new.faults
shows_write_fault picture old new status shows e =
    let fault = subst (λ (s : Status). Shows picture old new s) e shows in fault.0
