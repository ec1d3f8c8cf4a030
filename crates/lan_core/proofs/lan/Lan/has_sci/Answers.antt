use Rattle.std.proofs.Common.{nat_eq, ap, ◌∙◌, List}
use Rattle.std.specs.Cmp.Lexicographic.{pointwise}
use Rattle.std.specs.List.{list_any}
use Rattle.lan_base.specs.declared.address.Sci.{Sci}
use Rattle.lan_core.specs.Standing.{State, scis_in}
use Rattle.lan_core.proofs.StationsKept.{any-sci, same-scis}
use Rattle.lan_core.proofs.lan.Lan.has_sci.Goals as goal

pub returns-clause-places : goal.returns-clause-places
returns-clause-places c =
    c.has_sci.ensures ∙ any-sci (pointwise nat_eq c.args.sci.now.0) c.self.inside.seats
    ∙ ap (λ (lan : State). list_any (λ (other : Sci). pointwise nat_eq c.args.sci.now.0 other.0) (scis_in lan))
    c.self.view_is

pub returns-clause-stations : goal.returns-clause-stations
returns-clause-stations c settings users r stands =
    returns-clause-places c
    ∙ ap (λ (scis : List Sci). list_any (λ (other : Sci). pointwise nat_eq c.args.sci.now.0 other.0) scis)
    (same-scis settings users c.args.self.now r stands)
