-- Packets and records part by part, which the laws of a taker of lines cite.
use Rattle.std.proofs.Common.{◌≡◌, ℕ, List, [], ◌∷◌, ◌++◌, refl, sym, ap, ◌∙◌, append_assoc}
use Rattle.std.proofs.lemmas.List.{append-nil}
use Rattle.lan_core.specs.declared.fact.Fact.{Fact}
use Rattle.capture_file.specs.Pcap.{record_octets}
use Rattle.capture_file.specs.Records.{Packet, records_of}
use Rattle.transcript_reader.specs.Time.{ticks}
use Rattle.transcript_capture.specs.Packets.{packet_of, packets_after}

pub packets-append : (earlier facts more : List Fact)
    → packets_after earlier (facts ++ more) ≡ packets_after earlier facts ++ packets_after (earlier ++ facts) more
packets-append earlier [] more =
    ap (λ (l : List Fact). packets_after l more) (sym (append-nil earlier))
packets-append earlier (fact ∷ facts) more =
    ap (λ (l : List Packet). packet_of (ticks earlier) fact ++ l) (packets-append (earlier ++ fact ∷ []) facts more)
    ∙ ap (λ (l : List Fact). packet_of (ticks earlier) fact ++ (packets_after (earlier ++ fact ∷ []) facts ++ packets_after l more))
    (append_assoc earlier (fact ∷ []) facts)
    ∙ sym (append_assoc (packet_of (ticks earlier) fact) (packets_after (earlier ++ fact ∷ []) facts)
    (packets_after (earlier ++ fact ∷ facts) more))

pub records-append : (ps qs : List Packet) → records_of (ps ++ qs) ≡ records_of ps ++ records_of qs
records-append [] qs = refl
records-append (p ∷ ps) qs =
    let one = record_octets p.seconds p.micros p.octets in
    ap (λ (l : List ℕ). one ++ l) (records-append ps qs)
    ∙ sym (append_assoc one (records_of ps) (records_of qs))
