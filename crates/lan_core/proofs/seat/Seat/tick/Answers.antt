use Rattle.std.proofs.Common.{◌≡◌, ◌∙◌, ◌+◌, Err, ap, sym, arith}
use Rattle.std.proofs.lemmas.Result.{err_from_is_err_and}
use Rattle.peer_lists.specs.Histories.{clock}
use Rattle.mka_station.specs.declared.tick_error.TickError.{TickError}
use Rattle.mka_station.specs.declared.tick_error.TickError.TheVariants.{DrawsSpent}
use Rattle.mka_station.specs.Drawing.{sak_of}
use Rattle.mka_station.specs.Lives.{peers_of}
use Rattle.lan_core.specs.Ledgers.{next_frame}
use Rattle.lan_core.specs.Lives.{receiving, turn_at_tick}
use Rattle.lan_core.specs.Standing.{Seat}
use Rattle.lan_core.specs.inside.Seats.{installs_in}
use Rattle.lan_core.proofs.SlotsFollow.{in-reaction}
use Rattle.lan_core.proofs.SeatGoesOn.{clock-told, leaves, tick-told}
use Rattle.lan_core.proofs.seat.Seat.tick.Goals as goal

pub returns-clause-facts : goal.returns-clause-facts
returns-clause-facts g c = λ settings r l s numbered.
    let sak = sak_of l.member.setup.suite (g.D.Draws.nth c.args.draws.now) in
    let counted : c.self.inside.ticks ≡ clock (peers_of l.member l.past) + 1 =
    ap (λ (seat : Seat). seat.ticks) c.self.view_is
    ∙ clock-told settings c.args.place r l c.args.next sak _ _ (c.in_ok-reaction.ensures.stands settings c.args.place r l s) in
    tick-told settings c.args.place r l c.args.next sak c.in_ok-reaction.reaction c.args.number c.self.inside.ticks _
    (c.in_ok-reaction.ensures.reaction settings c.args.place r l s) numbered counted c.in_ok-facts.ensures

pub returns-clause-stands : goal.returns-clause-stands
returns-clause-stands g c = λ settings r l s numbered.
    let sak = sak_of l.member.setup.suite (g.D.Draws.nth c.args.draws.now) in
    leaves settings.window _ c.args.place 0 (next_frame r) (receiving c.args.place r) c.in_ok-reaction.reaction
    (turn_at_tick settings c.args.place r l c.args.next sak).reaction _
    (c.in_ok-reaction.ensures.reaction settings c.args.place r l s) (c.in_ok-reaction.ensures.stands settings c.args.place r l s)

pub returns-clause-counted : goal.returns-clause-counted
returns-clause-counted g c =
    omega (arith, c.in_ok-reaction.ensures.counted, ap installs_in c.in_ok-facts.ensures, in-reaction c.args.place 0 c.args.number c.in_ok-reaction.reaction)

pub returns-clause-drawn : goal.returns-clause-drawn
returns-clause-drawn g c = λ settings r l s. c.in_ok-reaction.ensures.drawn settings c.args.place r l s

pub returns-clause-enough : goal.returns-clause-enough
returns-clause-enough g c = λ settings r l s. c.in_ok-reaction.ensures.enough settings c.args.place r l s

pub returns-in_err-reaction-clause-spent : goal.returns-in_err-reaction-clause-spent
returns-in_err-reaction-clause-spent g c = λ settings r l s is.
    let p = err_from_is_err_and c.from_residual.result c.from_residual.ensures.1 in
    let f = sym p.1 ∙ is in
    let spent : p.0 ≡ DrawsSpent = cc (f) in
    c.in_err-reaction.ensures.spent settings c.args.place r l s (ap (λ (fault : TickError). Err fault) (sym p.2 ∙ spent))
