use Rattle.std.proofs.Common.{sym, subst}
use Rattle.member_notes.specs.Mkpdus.{mkpdus_of}
use Rattle.member_notes.specs.Standing.{Members, StandsFor}
use Rattle.member_notes.proofs.Putting.{noted, if_ok}
use Rattle.member_notes.proofs.notes.MemberNotes.note.Goals as goal

pub returns-clause-noted : goal.returns-clause-noted
returns-clause-noted c = λ h stands.
    let e = c.args.mkpdu.now in
    let stood : StandsFor h c.self.inside.members.entries = subst (λ (n : Members). StandsFor h n) (sym c.self.view_is) stands in
    if_ok c.note_at.result (λ told p. (p.0, noted e h c.self.inside.members.entries c.note_at.new.members.entries stood p.1))
    (c.note_at.ensures.noted (mkpdus_of e.group e.mi h) (stood e.group e.mi))
