use Rattle.std.proofs.Common.{sym, subst}
use Rattle.known_saks.specs.Known.{StandsFor}
use Rattle.known_saks.proofs.Noted.{nothing}
use Rattle.known_saks.proofs.marks.KnownSaks.new.Goals as goal
use Rattle.std.specs.Prelude.{[]}

pub returns : goal.returns
returns c = subst (λ marks. StandsFor marks []) (sym c.new.ensures.empty) nothing
