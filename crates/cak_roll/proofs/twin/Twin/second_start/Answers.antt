use Rattle.std.proofs.Common.{Some, None, sym, ap, ◌∙◌, subst}
use Rattle.std.specs.Option.{option_copied}
use Rattle.cak_roll.specs.Standing.{StandsFor}
use Rattle.cak_roll.proofs.Acts.{adopts}
use Rattle.cak_roll.proofs.twin.Twin.second_start.Goals as goal

pub returns-in-Some : goal.returns-in-Some
returns-in-Some c = λ pair users t stands.
    let st = subst (λ held. StandsFor pair users held t) (sym c.self.view_is) stands in
    sym (adopts pair users t _ st c.args.station (Some c.in-Some.started.now)
    (sym c.station.ensures ∙ ap option_copied c.in-Some.is))

pub returns-in-None : goal.returns-in-None
returns-in-None c = λ pair users t stands.
    let st = subst (λ held. StandsFor pair users held t) (sym c.self.view_is) stands in
    sym (adopts pair users t _ st c.args.station None
    (sym c.station.ensures ∙ ap option_copied c.in-None.is))
