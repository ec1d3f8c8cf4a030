use Rattle.std.proofs.Common.{ℕ, List, subst}
use Rattle.transcript_reader.specs.Time.{ticks}
use Rattle.transcript_capture.specs.inside.Taking.{Writes}
use Rattle.transcript_capture.proofs.PacketsOf.{framed}
use Rattle.transcript_capture.proofs.recording.Recording.take.Goals as goal

pub returns-in-Framed-clause-records : goal.returns-in-Framed-clause-records
returns-in-Framed-clause-records g c = λ earlier is.
    let held = g.K.Sink.held c.args.sink.now in
    let then = g.K.Sink.held c.write.new.sink in
    let w = subst (λ (l : List ℕ). Writes (ticks earlier) l held then c.write.result) c.as_slice.ensures.value
    (c.write.ensures.writes (ticks earlier) is.at) in
    rw c.in-Framed.is (framed earlier _ _ _ _ c.args.self.now c.write.new.self held then c.write.result is
    c.write.ensures.kept w)
