use Rattle.std.proofs.Common.{◌++◌, ◌∙◌, ℕ, List, ap, append_assoc, sym}
use Rattle.audit_report.specs.Lines.{set_lines}
use Rattle.audit_report.specs.Report.{packet_lines}
use Rattle.capture_audit.specs.Telling.{all_told, numbered_hand}
use Rattle.capture_audit.proofs.FrontTold.{once-stays, one-key-stays, told-front}
use Rattle.capture_audit.proofs.laws.law_a_front_is_told_first.Goals as goal

pub returns : goal.returns
returns c = record {
  lines = λ asks ring later earlier.
      let it = told-front asks ring later earlier in (
        it.0,
        ap (λ (l : List ℕ). set_lines asks.keys (numbered_hand ring) ++ l) it.1
            ∙ sym (append_assoc (set_lines asks.keys (numbered_hand ring)) (packet_lines asks.shows asks.keys (all_told ring earlier)) it.0),
      );
  once = once-stays;
  one_key = one-key-stays;
}
