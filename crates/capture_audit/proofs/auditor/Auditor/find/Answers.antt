use Rattle.std.proofs.Common.{◌∙◌, sym}
use Rattle.capture_audit.specs.Before.{entries, frames, mkpdus}
use Rattle.capture_audit.proofs.Behind.{frames-behind}
use Rattle.capture_audit.proofs.Settling.{mka-finds, sec-found}
use Rattle.capture_audit.proofs.auditor.Auditor.find.Goals as goal

pub returns-in_ok-sec-in-Sec-clause-finds : goal.returns-in_ok-sec-in-Sec-clause-finds
returns-in_ok-sec-in-Sec-clause-finds c = λ ring before seen number keeps found.
    let kind = found.kind_is in
    let is = c.in-Sec.is in
    let head = found.head_is in
    let notes = c.in_ok-sec-in-Sec.ensures.notes ring.groups (entries ring before) (frames ring before) (mkpdus ring before)
    keeps.holds (rw number (frames-behind ring before)) in
    sec-found ring before seen c.in-Sec.sec c.args.newest _ _ (sym kind ∙ is) (rw is at found.tried) (rw (number, head) at notes) keeps.few

pub returns-in-Mka-clause-finds : goal.returns-in-Mka-clause-finds
returns-in-Mka-clause-finds c = λ ring before seen number keeps found.
    let kind = found.kind_is in
    let is = c.in-Mka.is in
    let head = found.head_is in
    let handles = c.mka.ensures.handles ring.groups (entries ring before) (frames ring before) (mkpdus ring before)
    keeps.holds keeps.few in
    mka-finds ring before seen c.in-Mka.mka c.args.self.now _ _ (sym kind ∙ is) (rw (number, head) at handles)
