-- How the program ends after a transcript was captured, and after a file was told.
use Rattle.std.proofs.Common.{◌≡◌, ℕ, List, Option, Result, Ok, Err, inl, refl}
use Rattle.text_lines.specs.Reading.{Sourced}
use Rattle.text_lines.specs.declared.unfinished.Unfinished.{Unfinished}
use Rattle.text_lines.specs.declared.unfinished.Unfinished.TheVariants as unfinished
use Rattle.transcript_capture.specs.declared.fault.LineFault.{LineFault}
use Rattle.transcript_capture.proofs.Public.{not-captured}
use Rattle.capture_file.specs.declared.fault.CaptureFault.{CaptureFault}
use Rattle.replay.specs.Sinks.{Sunk}
use Rattle.rollover_program.specs.declared.status.Status.TheVariants.{Usage, ReadFault, WriteFault, Memory}
use Rattle.rollover_program.specs.commands.Capture.{EndsAsCapture, status_of_capture}
use Rattle.rollover_program.specs.commands.Dissect.{EndsAsDissect, status_of_telling}

-- ---- nothing was done, for want of memory

pub not_captured : (text : List ℕ) (left : Sourced) (old : Sunk)
    → EndsAsCapture text left left old old Memory
not_captured text left old = (Err unfinished.Memory, not-captured text left old.held, refl)

pub not_dissected : (file : List ℕ) (left held : Option (List ℕ))
    → EndsAsDissect file left held held Memory
not_dissected file left held = (Err unfinished.Memory, inl refl, refl)

-- ---- a transcript was captured

pub capture_no_usage : (r : Result (Unit {0}) (Unfinished LineFault)) → status_of_capture r ≡ Usage → ⊥
capture_no_usage (Ok done) e = cc e
capture_no_usage (Err (unfinished.Refused line why)) e = cc e
capture_no_usage (Err unfinished.Limit) e = cc e
capture_no_usage (Err unfinished.ReadFault) e = cc e
capture_no_usage (Err unfinished.WriteFault) e = cc e
capture_no_usage (Err unfinished.Memory) e = cc e

pub capture_read : (r : Result (Unit {0}) (Unfinished LineFault)) → status_of_capture r ≡ ReadFault
    → r ≡ Err unfinished.ReadFault
capture_read (Ok done) e = absurd (cc e)
capture_read (Err (unfinished.Refused line why)) e = absurd (cc e)
capture_read (Err unfinished.Limit) e = absurd (cc e)
capture_read (Err unfinished.ReadFault) e = refl
capture_read (Err unfinished.WriteFault) e = absurd (cc e)
capture_read (Err unfinished.Memory) e = absurd (cc e)

pub capture_write : (r : Result (Unit {0}) (Unfinished LineFault)) → status_of_capture r ≡ WriteFault
    → r ≡ Err unfinished.WriteFault
capture_write (Ok done) e = absurd (cc e)
capture_write (Err (unfinished.Refused line why)) e = absurd (cc e)
capture_write (Err unfinished.Limit) e = absurd (cc e)
capture_write (Err unfinished.ReadFault) e = absurd (cc e)
capture_write (Err unfinished.WriteFault) e = refl
capture_write (Err unfinished.Memory) e = absurd (cc e)

-- ---- a file was told

pub telling_no_usage : (r : Result (Unit {0}) (Unfinished CaptureFault)) → status_of_telling r ≡ Usage → ⊥
telling_no_usage (Ok done) e = cc e
telling_no_usage (Err (unfinished.Refused at why)) e = cc e
telling_no_usage (Err unfinished.Limit) e = cc e
telling_no_usage (Err unfinished.ReadFault) e = cc e
telling_no_usage (Err unfinished.WriteFault) e = cc e
telling_no_usage (Err unfinished.Memory) e = cc e

pub telling_read : (r : Result (Unit {0}) (Unfinished CaptureFault)) → status_of_telling r ≡ ReadFault
    → r ≡ Err unfinished.ReadFault
telling_read (Ok done) e = absurd (cc e)
telling_read (Err (unfinished.Refused at why)) e = absurd (cc e)
telling_read (Err unfinished.Limit) e = absurd (cc e)
telling_read (Err unfinished.ReadFault) e = refl
telling_read (Err unfinished.WriteFault) e = absurd (cc e)
telling_read (Err unfinished.Memory) e = absurd (cc e)

pub telling_write : (r : Result (Unit {0}) (Unfinished CaptureFault)) → status_of_telling r ≡ WriteFault
    → r ≡ Err unfinished.WriteFault
telling_write (Ok done) e = absurd (cc e)
telling_write (Err (unfinished.Refused at why)) e = absurd (cc e)
telling_write (Err unfinished.Limit) e = absurd (cc e)
telling_write (Err unfinished.ReadFault) e = absurd (cc e)
telling_write (Err unfinished.WriteFault) e = refl
telling_write (Err unfinished.Memory) e = absurd (cc e)
