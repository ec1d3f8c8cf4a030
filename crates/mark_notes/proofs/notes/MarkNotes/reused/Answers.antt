use Rattle.std.proofs.Common.{sym, subst}
use Rattle.std.specs.Prelude.{Option}
use Rattle.tick_columns.specs.Columns.{Columns}
use Rattle.mark_notes.specs.declared.reuse.Reuse.{Reuse}
use Rattle.mark_notes.specs.Marks.{reuses_of}
use Rattle.mark_notes.specs.Standing.{KeepsReuses, KeptMarks, StandsFor}
use Rattle.mark_notes.proofs.Views.{kept_of}
use Rattle.mark_notes.proofs.notes.MarkNotes.reused.Goals as goal

pub returns : goal.returns
returns c = λ gs rs stands.
    let stood : StandsFor gs rs (kept_of c.self.inside) =
    subst (λ (k : KeptMarks). StandsFor gs rs k) (sym c.self.view_is) stands in
    subst (λ (o : Option (Columns Reuse)). KeepsReuses (reuses_of c.args.sci rs) o) (sym c.get.ensures.value)
    (stood.senders c.args.sci)
