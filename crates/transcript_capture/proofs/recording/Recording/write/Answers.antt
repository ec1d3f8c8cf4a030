use Rattle.std.proofs.Common.{◌≡◌, ◌∙◌, ◌≤◌, ◌++◌, ◌∷◌, ℕ, List, [], length, sym, ap, subst, arith}
use Rattle.lan_base.specs.Told.{after}
use Rattle.capture_file.specs.Pcap.{most_written, record_octets}
use Rattle.capture_file.specs.Records.{records_of}
use Rattle.transcript_capture.specs.declared.clock.Clock.{Clock}
use Rattle.transcript_capture.specs.Packets.{packet_at}
use Rattle.transcript_capture.specs.Recording.{IsClockAt, WrotePart}
use Rattle.transcript_capture.specs.inside.Recorded.{grew-written}
use Rattle.transcript_capture.proofs.Times.{seen-now}
use Rattle.transcript_capture.proofs.recording.Recording.write.Goals.{in-Ok, in-Err-Failed, in-Err-Memory}
use Rattle.transcript_capture.proofs.recording.Recording.write.Goals as goal

pub returns-clause-writes : goal.returns-clause-writes
returns-clause-writes g c = λ n at.
    let octets = c.args.octets.now in
    let clock = c.self.inside.clock in
    let held = g.K.Sink.held c.args.sink.now in
    let then = g.K.Sink.held c.write_all.new.sink in
    let now = subst (λ (k : Clock). IsClockAt n k) (sym c.self.view_is) at in
    let few : length octets ≤ most_written = omega (arith, c.if-octets.false) in
    let is : c.deref.result.now ≡ records_of (packet_at n octets ∷ []) =
    c.deref.ensures.value ∙ c.in_ok-packet.ensures.ok
    ∙ ap (λ (l : List ℕ). l ++ record_octets clock.seconds c.micros.result octets) c.clear.ensures.items
    ∙ ap (λ (m : ℕ). record_octets clock.seconds m octets) c.micros.ensures
    ∙ seen-now n clock octets now in
    elim c.match-write_all.branch [
      | in-Ok w ↦ rw w.result-is (few, subst (λ (l : List ℕ). then ≡ after held l) is w.in-Ok.ensures.all)
      | in-Err-Failed w ↦ rw w.result-is (few, subst (λ (l : List ℕ). WrotePart l held then) is w.in-Err-Failed.ensures.prefix)
      | in-Err-Memory w ↦ rw w.result-is (few, subst (λ (l : List ℕ). WrotePart l held then) is w.in-Err-Memory.ensures.prefix)
    ]

pub returns-clause-grew : goal.returns-clause-grew
returns-clause-grew g c =
    grew-written g.K.Sink.held g.K.Sink.faults c.args.sink.now c.write_all.new.sink c.deref.result.now
    c.write_all.result c.write_all.ensures.all c.write_all.ensures.prefix c.write_all.ensures.counts
