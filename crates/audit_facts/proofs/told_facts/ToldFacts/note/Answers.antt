use Rattle.std.proofs.Common.{◌∷◌, ◌++◌, sym, subst}
use Rattle.std.specs.Prelude.{OnOk}
use Rattle.audit_report.specs.declared.finding.Finding.{Finding}
use Rattle.audit_facts.specs.Noted.{IsNext, events, fresh_frames, given_in, noted_of, said_by, spoken_of, unknown_by}
use Rattle.audit_facts.specs.Standing.{ToldStandFor}
use Rattle.audit_facts.proofs.Noting.{heard}
use Rattle.audit_facts.proofs.Views.{on_ok}
use Rattle.audit_facts.proofs.told_facts.ToldFacts.note.Goals as goal

pub returns-in_ok-give-in-RightMkpdu : goal.returns-in_ok-give-in-RightMkpdu
returns-in_ok-give-in-RightMkpdu c = λ h stands next.
    let it = c.in-RightMkpdu in
    let said = said_by c.args.kind.now in
    subst (λ (f : Finding). OnOk c.hear.result (ToldStandFor (noted_of f c.args.nanos c.args.kind.now ∷ h) c.hear.new.self))
    (sym it.is)
    (on_ok c.hear.result
    (heard h c.args.nanos said (unknown_by c.args.kind.now) c.hear.new.self it.mkpdu it.novelty it.handed)
    (c.hear.ensures (fresh_frames h) (spoken_of h) (given_in it.mkpdu.group it.handed ++ events h)
    (c.in_ok-give-in-RightMkpdu.ensures (fresh_frames h) (spoken_of h) (events h) stands)
    (subst (λ (f : Finding). IsNext h (noted_of f c.args.nanos c.args.kind.now)) it.is next)))
