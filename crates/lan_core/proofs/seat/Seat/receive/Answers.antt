use Rattle.std.proofs.Common.{subst, sym}
use Rattle.lan_core.specs.Standing.{Seat, Sits}
use Rattle.lan_core.proofs.seat.Seat.receive.Goals as goal

pub returns-clause-facts : goal.returns-clause-facts
returns-clause-facts c = λ window l h sits.
    let s = subst (λ (seat : Seat). Sits window l h seat) (sym c.self.view_is) sits in
    c.admit.ensures.facts window l h c.args.octets.now sits (c.in_ok-checked.ensures.answer l.member.setup.sci window h s.slots)

pub returns-clause-stands : goal.returns-clause-stands
returns-clause-stands c = λ window l h sits.
    let s = subst (λ (seat : Seat). Sits window l h seat) (sym c.self.view_is) sits in
    c.admit.ensures.stands window l h c.args.octets.now sits (c.in_ok-checked.ensures.answer l.member.setup.sci window h s.slots)
