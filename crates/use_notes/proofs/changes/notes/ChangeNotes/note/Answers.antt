use Rattle.std.proofs.Common.{sym, subst}
use Rattle.use_notes.specs.changes.Changes.{frames_from}
use Rattle.use_notes.specs.changes.Standing.{Senders, StandsFor}
use Rattle.use_notes.proofs.changing.Putting.{noted, own-order, on_ok}
use Rattle.use_notes.proofs.changes.notes.ChangeNotes.note.Goals as goal

pub returns-clause-noted : goal.returns-clause-noted
returns-clause-noted c = λ h stands order.
    let e = c.args.frame.now in
    let old = c.self.inside.senders.entries in
    let stood : StandsFor h old = subst (λ (n : Senders). StandsFor h n) (sym c.self.view_is) stands in
    on_ok c.note_at.result (λ put. noted e h old c.note_at.new.senders.entries stood order put)
    (c.note_at.ensures.noted (frames_from e.sci h) (stood.each e.sci) (own-order e h order))
