use Rattle.std.proofs.Common.{◌∙◌, ap}
use Rattle.std.proofs.lemmas.Result.{err_from_is_err_and}
use Rattle.capture_packets.specs.Packets.{context}
use Rattle.capture_packets.specs.declared.state.State.{State}
use Rattle.capture_packets.proofs.Opens.{opens-head}
use Rattle.capture_packets.proofs.reader.PacketReader.open.Goals as goal

pub returns-in_err-head-clause-opens : goal.returns-in_err-head-clause-opens
returns-in_err-head-clause-opens g c = λ limit text given file s visible.
    let p = err_from_is_err_and c.from_residual.result c.from_residual.ensures.1 in
    rw (p.1, p.2) (opens-head limit text given file c.head.new.self.supply _ c.in_err-head.field-0.0
    (c.in_err-head.ensures.reads limit text given file s visible))

pub returns-in_err-begin-clause-opens : goal.returns-in_err-begin-clause-opens
returns-in_err-begin-clause-opens g c = λ limit text given file s visible.
    let r = c.in_ok-head.ensures.reads limit text given file s visible in
    let known = ap (λ (s : State). context s) c.head.ensures.state ∙ c.blank.ensures in
    let start = c.head.ensures.start ∙ c.given.ensures ∙ s.count in
    let p = err_from_is_err_and c.from_residual-in_err-begin.result c.from_residual-in_err-begin.ensures.1 in
    rw (p.1, p.2) (c.in_err-begin.ensures.begins limit text given file r.0 visible known start r.1)

pub returns-clause-opens : goal.returns-clause-opens
returns-clause-opens g c = λ limit text given file s visible.
    let r = c.in_ok-head.ensures.reads limit text given file s visible in
    let known = ap (λ (s : State). context s) c.head.ensures.state ∙ c.blank.ensures in
    let start = c.head.ensures.start ∙ c.given.ensures ∙ s.count in
    c.in_ok-begin.ensures.begins limit text given file r.0 visible known start r.1
