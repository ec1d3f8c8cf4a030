use Rattle.std.proofs.Common.{◌+◌, ◌∙◌, ap, arith}
use Rattle.std.proofs.lemmas.Result.{err_from_is_err_and}
use Rattle.audit_report.specs.Packets.{begun_words}
use Rattle.audit_report.specs.declared.tally.Tally.{Tally}
use Rattle.packet_verdicts.specs.Frames.{frame_of}
use Rattle.packet_verdicts.specs.Kinds.{packet_kind}
use Rattle.capture_audit.specs.Telling.{all_told, noted}
use Rattle.capture_audit.proofs.Behind.{told-length}
use Rattle.capture_audit.proofs.Settling.{next-found, settled, settles-err}
use Rattle.capture_audit.proofs.auditor.Auditor.settle.Goals as goal

pub returns-in_err-finding-clause-settles : goal.returns-in_err-finding-clause-settles
returns-in_err-finding-clause-settles c = λ ring before packet keeps found.
    let p = err_from_is_err_and c.from_residual.result c.from_residual.ensures.1 in
    let number = ap (λ (t : Tally). t.all + 1) keeps.tally ∙ ap (λ n. n + 1) (told-length ring before) in
    let finds = c.in_err-finding.ensures.finds ring before packet number keeps found in
    rw (p.1, p.2) (settles-err ring before packet _ _ _ finds)

pub returns-in_err-note-clause-settles : goal.returns-in_err-note-clause-settles
returns-in_err-note-clause-settles c = λ ring before packet keeps found.
    let p = err_from_is_err_and c.from_residual-in_err-note.result c.from_residual-in_err-note.ensures.1 in
    rw (p.1, p.2) tt

pub returns-clause-settles : goal.returns-clause-settles
returns-clause-settles c = λ ring before packet keeps found.
    let number = ap (λ (t : Tally). t.all + 1) keeps.tally ∙ ap (λ n. n + 1) (told-length ring before) in
    let finds = c.in_ok-finding.ensures.finds ring before packet number keeps found in
    let within = c.in_ok-finding.ensures.within in
    let next = next-found ring before packet _ _ c.args.head.now c.args.kind.now c.args.newest finds found in
    let stands = c.in_ok-note.ensures (noted ring before) (rw within.facts keeps.facts) next in
    let tally = within.tally ∙ keeps.tally in
    let all = ap (λ (t : Tally). t.all) keeps.tally in
    let room = c.requires.room in
    settled ring before packet _ c.args.head.now c.args.kind.now c.args.newest c.args.self.now _ _ _ keeps finds found stands
    (c.with-self.ensures.tally (all_told ring before) (begun_words (frame_of packet.octets) (packet_kind ring.groups packet)) tally (omega (arith, all, room)))
