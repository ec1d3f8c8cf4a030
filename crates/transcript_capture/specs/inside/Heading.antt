-- What writing the head of a file did.
use Rattle.std.specs.Prelude.{◌≡◌, ℕ, List, Option, Result, Ok, Err}
use Rattle.lan_base.specs.Told.{after}
use Rattle.capture_file.specs.Pcap.{head_octets}
use Rattle.text_lines.specs.declared.unfinished.Unfinished.{Unfinished}
use Rattle.text_lines.specs.declared.unfinished.Unfinished.TheVariants.{WriteFault, Memory}
use Rattle.transcript_capture.specs.declared.fault.LineFault.{LineFault}
use Rattle.transcript_capture.specs.Recording.{WrotePart}

abbrev pub Heads : Option (List ℕ) → Option (List ℕ) → Result (Unit {0}) (Unfinished LineFault) → Type 0
Heads held then (Ok done) = then ≡ after held head_octets
Heads held then (Err WriteFault) = WrotePart head_octets held then
Heads held then (Err Memory) = WrotePart head_octets held then
Heads held then (Err _) = ⊥
