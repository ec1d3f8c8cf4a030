use Rattle.std.proofs.Common.{◌≡◌, ◌∷◌, [], subst, sym}
use Rattle.std.specs.Prelude.{IfOk}
use Rattle.rx_slots.specs.declared.arrival.Arrival.{Arrival}
use Rattle.lan_core.specs.declared.fact.Fact.TheVariants.{Arrived}
use Rattle.lan_core.specs.Standing.{Seat, Sits}
use Rattle.lan_core.proofs.SeatGoesOn.{on-ok}
use Rattle.lan_core.proofs.seat.Seat.admit.Goals as goal

pub invariant_of-self-2 : goal.invariant_of-self-2
invariant_of-self-2 c =
    let l = c.self.invariant.0 in
    let s = c.self.invariant.1 in
    (l, record { station = s.station; ticks = s.ticks; sent = s.sent; installs = s.installs })

pub returns-clause-facts : goal.returns-clause-facts
returns-clause-facts c = λ window l h octets sits checked.
    let s = subst (λ (seat : Seat). Sits window l h seat) (sym c.self.view_is) sits in
    subst (λ (arrival : Arrival). IfOk c.one.result (λ facts. facts ≡ Arrived c.args.number c.args.place arrival ∷ []))
    (c.in_ok-arrival.ensures.answer l.member.setup.sci window h octets s.slots checked) c.one.ensures

pub returns-clause-stands : goal.returns-clause-stands
returns-clause-stands c = λ window l h octets sits checked.
    let s = subst (λ (seat : Seat). Sits window l h seat) (sym c.self.view_is) sits in
    on-ok c.one.result (record {
      station = s.station;
      slots = c.in_ok-arrival.ensures.stands l.member.setup.sci window h octets s.slots checked;
      ticks = s.ticks;
      sent = s.sent;
      installs = s.installs;
    })
