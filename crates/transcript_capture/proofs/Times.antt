-- The time of a packet, as a record's fields hold it.
use Rattle.std.proofs.Common.{◌≡◌, ℕ, ◌*◌, ◌/◌, ◌%◌, ◌^◌, List, [], ◌∷◌, ◌++◌, length, sym, ap, ◌∙◌, arith}
use Rattle.std.proofs.lemmas.List.{append-nil}
use Rattle.byteorder.specs.Endian.{big_bytes}
use Rattle.capture_file.specs.Pcap.{record_octets}
use Rattle.capture_file.specs.Records.{records_of}
use Rattle.transcript_capture.specs.declared.clock.Clock.{Clock}
use Rattle.transcript_capture.specs.Packets.{packet_at}
use Rattle.transcript_capture.specs.Recording.{IsClockAt}

-- a field of four octets holds the low 32 bits
low-bytes : (x : ℕ) → big_bytes 4 (x % 2 ^ 32) ≡ big_bytes 4 x
low-bytes x =
    let a : x % 2 ^ 32 / 256 ^ 3 % 256 ≡ x / 256 ^ 3 % 256 = omega arith in
    let b : x % 2 ^ 32 / 256 ^ 2 % 256 ≡ x / 256 ^ 2 % 256 = omega arith in
    let c : x % 2 ^ 32 / 256 ^ 1 % 256 ≡ x / 256 ^ 1 % 256 = omega arith in
    let d : x % 2 ^ 32 % 256 ≡ x % 256 = omega arith in
    (λ i. a i ∷ b i ∷ c i ∷ d i ∷ [])

-- the record of octets that are seen by a clock
pub seen-now : (n : ℕ) (clock : Clock) (octets : List ℕ) → IsClockAt n clock
    → record_octets clock.seconds (clock.tenths * 100000) octets ≡ records_of (packet_at n octets ∷ [])
seen-now n clock octets at =
    ap (λ (s : ℕ). record_octets s (clock.tenths * 100000) octets) at.seconds
    ∙ ap (λ (t : ℕ). record_octets (n / 10 % 2 ^ 32) (t * 100000) octets) at.tenths
    ∙ ap (λ (s : List ℕ). (s ++ (big_bytes 4 (n % 10 * 100000) ++ (big_bytes 4 (length octets) ++ big_bytes 4 (length octets)))) ++ octets) (low-bytes (n / 10))
    ∙ sym (append-nil (record_octets (n / 10) (n % 10 * 100000) octets))
