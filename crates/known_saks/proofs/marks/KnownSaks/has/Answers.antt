use Rattle.std.proofs.Common.{◌∙◌, sym, subst}
use Rattle.known_saks.specs.Known.{StandsFor}
use Rattle.known_saks.proofs.Noted.{kept_known}
use Rattle.known_saks.proofs.marks.KnownSaks.has.Goals as goal

pub returns : goal.returns
returns c = λ noted stands. c.contains.ensures
    ∙ kept_known c.mark_of.result c.args.sak.now noted c.self.inside.marks.keys c.mark_of.ensures
    (subst (λ marks. StandsFor marks noted) (sym c.self.view_is) stands)
