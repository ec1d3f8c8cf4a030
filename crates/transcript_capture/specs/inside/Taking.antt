-- What writing a record did.
use Rattle.std.specs.Prelude.{◌≡◌, ◌≤◌, ℕ, List, [], ◌∷◌, length, Option, Result, Ok, Err}
use Rattle.lan_base.specs.Told.{after}
use Rattle.capture_file.specs.Pcap.{most_written}
use Rattle.capture_file.specs.Records.{records_of}
use Rattle.transcript_capture.specs.declared.fault.RecordError.{RecordError}
use Rattle.transcript_capture.specs.declared.fault.RecordError.TheVariants.{TooLong, Failed, Memory}
use Rattle.transcript_capture.specs.Packets.{packet_at}
use Rattle.transcript_capture.specs.Recording.{WrotePart}

abbrev pub Writes : ℕ → List ℕ → Option (List ℕ) → Option (List ℕ) → Result (Unit {0}) RecordError
    → Type 0
Writes n octets held then (Ok done) =
    (length octets ≤ most_written) × (then ≡ after held (records_of (packet_at n octets ∷ [])))
Writes n octets held then (Err TooLong) = (length octets ≤ most_written → ⊥) × (then ≡ held)
Writes n octets held then (Err Failed) =
    (length octets ≤ most_written) × WrotePart (records_of (packet_at n octets ∷ [])) held then
Writes n octets held then (Err Memory) =
    (length octets ≤ most_written) × WrotePart (records_of (packet_at n octets ∷ [])) held then
