use Rattle.std.proofs.Common.{sym, subst}
use Rattle.mark_notes.specs.Marks.{reuses_of}
use Rattle.mark_notes.specs.Standing.{KeptMarks, StandsFor}
use Rattle.mark_notes.proofs.Marking.{reused, stay-behind}
use Rattle.mark_notes.proofs.Views.{kept_of, on_ok}
use Rattle.mark_notes.proofs.notes.MarkNotes.reuse.Goals as goal

pub returns : goal.returns
returns c = λ gs rs stands behind.
    let old = kept_of c.self.inside in
    let r = c.args.packet.now in
    let stood : StandsFor gs rs old = subst (λ (k : KeptMarks). StandsFor gs rs k) (sym c.self.view_is) stands in
    on_ok c.note_reuse.result (λ more. reused gs rs old r c.note_reuse.new.senders.entries stood more)
    (c.note_reuse.ensures (reuses_of r.sci rs) (stood.senders r.sci) (stay-behind r.packet r.sci rs behind))
