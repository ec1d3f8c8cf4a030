use Rattle.std.proofs.Common.{◌∙◌, ap}
use Rattle.std.specs.Prelude.{unwrap_or}
use Rattle.rollover_notes.specs.Standing.{KeptRollovers}
use Rattle.rollover_notes.specs.inside.Putting.{lates_at}
use Rattle.rollover_notes.proofs.notes.RolloverNotes.late.Goals as goal

pub returns : goal.returns
returns c = λ h stands.
    c.unwrap_or.ensures
    ∙ (λ t. unwrap_or ((c.copied.ensures ∙ c.get.ensures.value) t) (c.none.ensures t))
    ∙ ap (λ (k : KeptRollovers). lates_at k.late (c.args.key, c.args.sci)) c.self.view_is
    ∙ stands.late (c.args.key, c.args.sci)
