use Rattle.std.proofs.Common.{◌≡◌, ◌∙◌, ◌++◌, ◌+◌, ℕ, Bool, List, [], ◌∷◌, length, ap, append_assoc, append-nil, sym}
use Rattle.audit_report.specs.Told.{Told}
use Rattle.audit_report.specs.Packets.{finding_lines}
use Rattle.audit_report.specs.Report.{packet_lines}
use Rattle.audit_report.proofs.laws.law_a_front_is_told_first.Goals as goal

told_first : (shows keys : Bool) (later earlier : List Told)
    → (more : List ℕ) × (packet_lines shows keys (later ++ earlier) ≡ packet_lines shows keys earlier ++ more)
told_first shows keys [] earlier = ([], sym (append-nil (packet_lines shows keys earlier)))
told_first shows keys (t ∷ later) earlier =
    let less = told_first shows keys later earlier in
    let lines : List ℕ = finding_lines shows keys (length (later ++ earlier) + 1) t.begun t.finding in (
      less.0 ++ lines,
      ap (λ text. text ++ lines) less.1 ∙ append_assoc (packet_lines shows keys earlier) less.0 lines,
    )

pub returns : goal.returns
returns c = told_first
