use Rattle.std.proofs.Common.{◌≡◌, ◌∙◌, ◌∷◌, ap, arith}
use Rattle.mka_station.specs.Restart.{ending}
use Rattle.mka_station.specs.Standing.{drawn_mi}
use Rattle.lan_core.specs.declared.fact.Fact.TheVariants as facts
use Rattle.lan_core.specs.Expected.{reaction_facts}
use Rattle.lan_core.specs.Standing.{Seat}
use Rattle.lan_core.specs.inside.Seats.{installs_in}
use Rattle.lan_core.proofs.SlotsFollow.{in-reaction}
use Rattle.lan_core.proofs.SeatGoesOn.{leaves}
use Rattle.lan_core.proofs.seat.Seat.restart.Goals as goal

pub returns-clause-facts : goal.returns-clause-facts
returns-clause-facts c = λ window l h s.
    let is = c.in_ok-reaction.ensures.reaction window l h s in
    let mi : c.mi.result.now ≡ drawn_mi c.args.draw =
    c.mi.ensures ∙ (ap (λ (seat : Seat). seat.station.mi) c.self.view_is ∙ (c.in_ok-reaction.ensures.stands window l h s).station.mi) in
    c.in_ok-facts.ensures ∙ (λ i. facts.Life c.args.place (mi i) ∷ reaction_facts c.args.place 0 0 (is i))

pub returns-clause-stands : goal.returns-clause-stands
returns-clause-stands c = λ window l h s.
    leaves window _ c.args.place 0 0 h c.in_ok-reaction.reaction (ending l.member l.past) _ (c.in_ok-reaction.ensures.reaction window l h s) (c.in_ok-reaction.ensures.stands window l h s)

pub returns-clause-counted : goal.returns-clause-counted
returns-clause-counted c =
    omega (arith, c.in_ok-reaction.ensures.counted, c.in_ok-reaction.ensures.none, ap installs_in c.in_ok-facts.ensures, in-reaction c.args.place 0 0 c.in_ok-reaction.reaction)
