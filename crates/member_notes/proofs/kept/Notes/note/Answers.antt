use Rattle.std.proofs.Common.{◌∙◌, sym, ap}
use Rattle.std.specs.Box.{with_value}
use Rattle.member_notes.specs.Standing.{KeptOfMember}
use Rattle.member_notes.specs.declared.kept.Notes.TheVariants.{More}
use Rattle.member_notes.proofs.Putting.{on_err}
use Rattle.member_notes.proofs.kept.Notes.note.Goals as goal

pub returns-in-More-clause-kept : goal.returns-in-More-clause-kept
returns-in-More-clause-kept c =
    on_err c.note.result
    (λ same. ap (λ (kept : KeptOfMember). More (with_value c.in-More.notes kept)) (same ∙ c.deref_mut.ensures.value) ∙ sym c.in-More.is) c.note.ensures.kept
