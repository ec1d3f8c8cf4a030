use Rattle.std.proofs.Common.{◌∙◌, ◌+◌, ◌++◌, sym, ap}
use Rattle.audit_report.specs.Packets.{begun_part, begun_words, finding_lines}
use Rattle.audit_report.specs.declared.tally.Tally.{Tally}
use Rattle.packet_verdicts.specs.Frames.{frame_of}
use Rattle.packet_verdicts.specs.Kinds.{packet_kind}
use Rattle.capture_audit.proofs.Behind.{told-length}
use Rattle.capture_audit.proofs.Telling.{told-more}
use Rattle.capture_audit.proofs.batch.tell.Goals as goal

pub returns-clause-tells : goal.returns-clause-tells
returns-clause-tells c = λ ring before packet keeps found line.
    let words = begun_words (frame_of packet.octets) (packet_kind ring.groups packet) in
    let settled = c.in_ok-finding.ensures.settles ring before packet keeps found in
    let number = c.in_ok-finding.ensures.count ∙ ap (λ (t : Tally). t.all + 1) keeps.tally
    ∙ ap (λ n. n + 1) (told-length ring before) in
    let begun = line ∙ ap (λ n. begun_part c.args.asks.shows n words) (sym number) in
    let value = c.deref.ensures.value in
    let puts = c.in_ok-put_finding.ensures words (cc (begun, value)) in
    told-more c.args.asks ring before packet c.in_ok-finding.finding _ _ _ settled
    (puts ∙ ap (λ n. c.args.text.now.items ++ finding_lines c.args.asks.shows c.args.asks.keys n words c.in_ok-finding.finding) number)
