use Rattle.std.proofs.Common.{sym, subst}
use Rattle.known_saks.specs.Known.{StandsFor}
use Rattle.known_saks.proofs.Noted.{noted_as}
use Rattle.known_saks.proofs.marks.KnownSaks.note.Goals as goal

pub returns-clause-noted : goal.returns-clause-noted
returns-clause-noted c = λ noted stands.
    noted_as c.mark_of.result c.args.sak.now noted c.self.inside.marks.keys c.insert.new.self.keys c.mark_of.ensures
    (λ octets. c.in_ok-insert.ensures.updates.0 octets)
    (subst (λ marks. StandsFor marks noted) (sym c.self.view_is) stands)
