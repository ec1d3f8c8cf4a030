use Rattle.std.proofs.Common.{◌∙◌, sym, ap, subst}
use Rattle.least_pairs.specs.Pairs.{IsJudged}
use Rattle.use_notes.specs.Once.{BreaksOnce}
use Rattle.use_notes.specs.Standing.{Notes}
use Rattle.use_notes.proofs.Judging.{judged}
use Rattle.use_notes.proofs.notes.UseNotes.once.Goals as goal

pub returns-clause-judged : goal.returns-clause-judged
returns-clause-judged c = λ h stands.
    subst (λ o. IsJudged (BreaksOnce h) o)
    (sym (ap (λ (n : Notes). n.once) c.self.view_is ∙ stands.once)) (judged h stands.ordered)
