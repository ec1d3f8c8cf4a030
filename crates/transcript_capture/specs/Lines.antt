-- By which rule lines of a transcript are taken (this profile's own rule).
use Rattle.std.specs.Prelude.{ℕ, List}
use Rattle.lan_core.specs.declared.fact.Fact.{Fact}
use Rattle.transcript_reader.specs.Facts.{Known, Tells}
use Rattle.transcript_reader.specs.Taking.{Rule}
use Rattle.transcript_capture.specs.declared.fault.LineFault.{LineFault}
use Rattle.transcript_capture.specs.declared.fault.LineFault.TheVariants.{Unread, TooLong}
use Rattle.transcript_capture.specs.Packets.{Fits}

-- why a line is refused behind lines from which this is known
abbrev pub IsDenied : Known → List ℕ → LineFault → Type 0
IsDenied known line Unread = (after : Known) (fact : Fact) → Tells known line after fact → ⊥
IsDenied known line TooLong =
    (after : Known) × (fact : Fact) × Tells known line after fact × (Fits fact → ⊥)

-- facts are taken whose frames are short enough
abbrev pub by_length : Rule LineFault
by_length = record {
  Free = λ earlier fact. Fits fact;
  Denies = λ known earlier line why. IsDenied known line why;
}
