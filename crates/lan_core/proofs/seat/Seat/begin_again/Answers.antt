use Rattle.std.proofs.Common.{◌∙◌, [], List, ap, subst, sym, refl}
use Rattle.rx_slots.specs.Standing.{StandsFor as SlotsStandFor}
use Rattle.sak_exchange.specs.declared.change.Change.{Change}
use Rattle.mka_station.specs.declared.reaction.Reaction.{Reaction}
use Rattle.mka_station.specs.Standing.{reborn}
use Rattle.lan_core.specs.Standing.{Seat, Sits}
use Rattle.lan_core.specs.inside.Following.{count_installed, followed}
use Rattle.lan_core.proofs.SlotsFollow.{ending-count}
use Rattle.lan_core.proofs.SeatGoesOn.{alive-new, sits-with}
use Rattle.lan_core.proofs.seat.Seat.begin_again.Goals as goal

pub invariant_of-self-2 : goal.invariant_of-self-2
invariant_of-self-2 c =
    let l = c.self.invariant.0 in
    let s = c.self.invariant.1 in
    let m = reborn l.member l.past c.args.draw in
    (record { member = m; past = [] }, alive-new m _ (c.in_ok-reaction.ensures.stands l.member l.past s.station) refl s.installs)

pub returns-clause-stands : goal.returns-clause-stands
returns-clause-stands c = λ window l h sits.
    let s = subst (λ (seat : Seat). Sits window l h seat) (sym c.self.view_is) sits in
    let m = reborn l.member l.past c.args.draw in
    sits-with window (record { member = m; past = [] }) (followed c.in_ok-reaction.reaction.changes h) _
    (alive-new m _ (c.in_ok-reaction.ensures.stands l.member l.past s.station) refl s.installs)
    (subst (λ (ds : List Change). SlotsStandFor l.member.setup.sci window c.follow.new.slots (followed ds h)) c.as_slice.ensures (c.follow.ensures l.member.setup.sci window h s.slots))

pub returns-clause-none : goal.returns-clause-none
returns-clause-none c =
    let l = c.self.invariant.0 in
    ap count_installed (ap (λ (r : Reaction). r.changes) (c.in_ok-reaction.ensures.reaction l.member l.past c.self.invariant.1.station)) ∙ ending-count l.member l.past
