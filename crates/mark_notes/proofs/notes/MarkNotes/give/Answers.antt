use Rattle.std.proofs.Common.{sym, subst}
use Rattle.mark_notes.specs.Standing.{KeptMarks, StandsFor}
use Rattle.mark_notes.proofs.Marking.{gave}
use Rattle.mark_notes.proofs.Views.{kept_of, on_ok}
use Rattle.mark_notes.proofs.notes.MarkNotes.give.Goals as goal

pub returns : goal.returns
returns c = λ gs rs stands.
    let old = kept_of c.self.inside in
    let stood : StandsFor gs rs old = subst (λ (k : KeptMarks). StandsFor gs rs k) (sym c.self.view_is) stands in
    on_ok c.give.result (λ more. gave gs rs old c.args.giving.now c.give.new.givings.entries stood more) c.give.ensures
