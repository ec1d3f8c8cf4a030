-- What one packet more is to show to be marked.
use Rattle.std.specs.Prelude.{⊤, ◌≤◌, All, List}
use Rattle.audit_report.specs.declared.finding.Finding.{Finding}
use Rattle.audit_report.specs.declared.finding.Finding.TheVariants as findings
use Rattle.mark_notes.specs.declared.reuse.Reuse.{Reuse}
use Rattle.use_notes.specs.declared.frame.RightFrame.{RightFrame}
use Rattle.use_notes.specs.declared.novelty.Novelty.{Novelty}
use Rattle.use_notes.specs.declared.novelty.Novelty.TheVariants.{Reused}

-- a reused frame is not before packets that were reused
abbrev pub IsBehindAs : List Reuse → RightFrame → Novelty → Type 0
IsBehindAs rs frame (Reused first) = All (λ r. r.packet ≤ frame.packet) rs
IsBehindAs rs frame _ = ⊤

abbrev pub IsBehindReuses : List Reuse → Finding → Type 0
IsBehindReuses rs (findings.RightFrame frame novelty) = IsBehindAs rs frame novelty
IsBehindReuses rs _ = ⊤
