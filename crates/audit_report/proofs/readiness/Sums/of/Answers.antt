use Rattle.std.proofs.Common.{◌∙◌}
use Rattle.rollover_notes.specs.declared.unready.Unready.{Unready}
use Rattle.audit_report.specs.declared.uses.TimedUse.{TimedUse}
use Rattle.audit_report.proofs.Adding.{capped}
use Rattle.audit_report.proofs.readiness.Sums.of.Goals as goal

pub returns : goal.returns
returns c = λ t. record {
  early = (c.early.ensures ∙ capped (λ (u : Unready). u.early) c.args.unready.now) t;
  joining = (c.joining.ensures ∙ capped (λ (u : Unready). u.joining) c.args.unready.now) t;
  late = (c.late.ensures ∙ capped (λ (u : TimedUse). u.late) c.args.uses.now) t;
}
