use Rattle.std.proofs.Common.{◌≡◌, ◌∙◌, ◌+◌, ℕ, Some, None, refl, ap, sym, subst}
use Rattle.std.specs.Prelude.{OnSome}
use Rattle.std.specs.Option.{ok_or}
use Rattle.mka_station.specs.Standing.{drawn_mi}
use Rattle.lan_core.specs.declared.event.Event.TheVariants as events
use Rattle.lan_core.specs.declared.stop.Stop.TheVariants.{DrawsSpent}
use Rattle.lan_core.specs.Standing.{StandsFor, number_of_mi}
use Rattle.lan_core.specs.inside.Seats.{Restarts}
use Rattle.lan_core.specs.Noting.{MiIsNoted}
use Rattle.lan_core.specs.inside.Drawing.{stop_of}
use Rattle.lan_core.proofs.OctetsReach.{place-of, came-so, came-not}
use Rattle.lan_core.proofs.RefusalPassedOn.{refused, stopped, by-part}
use Rattle.lan_core.proofs.RestartGoesOn.{no-draw, restart-goes-on, restart-stops}
use Rattle.lan_core.proofs.lan.Lan.restart.Goals as goal

pub returns-in_err-draw-clause-answers : goal.returns-in_err-draw-clause-answers
returns-in_err-draw-clause-answers g c settings users r stands comes =
    let nth = g.D.Draws.nth c.args.draws.now in
    let none : nth 0 ≡ None = sym c.draw.ensures.next ∙ c.in_err-draw.ensures.ok_part in
    let spent : c.in_err-draw.field-0.0 ≡ DrawsSpent =
    cc (c.in_err-draw.ensures.value, ap (λ o. ok_or o DrawsSpent) c.in_err-draw.ensures.ok_part) in
    stopped settings users r (events.Restart c.args.station) nth _ _ _ _ c.from_residual.ensures.1
    (no-draw settings users r (events.Restart c.args.station) nth refl none ∙ ap (λ stop. Some stop) (sym spent))

pub returns-in_err-note_mi-clause-answers : goal.returns-in_err-note_mi-clause-answers
returns-in_err-note_mi-clause-answers g c settings users r stands comes =
    let s = c.args.station in
    let now = c.self.inside in
    let nth = g.D.Draws.nth c.args.draws.now in
    let st = subst (λ lan. StandsFor settings users lan r) (sym c.self.view_is) stands in
    let there = (place-of settings users r _ st s comes).1.1 in
    let first : nth 0 ≡ Some c.in_ok-draw.draw = sym c.draw.ensures.next ∙ c.in_ok-draw.ensures.ok_part in
    refused settings users r (events.Restart s) nth _ _ _ _ c.from_residual-in_err-note_mi.ensures.1
    (by-part _ _ _ (restart-stops settings users r _ st s there.alive c.in_ok-draw.draw nth there.lives first
    ∙ ap (λ mi. stop_of now.drawn (number_of_mi now.drawn mi)) (sym c.mi_of.ensures)) c.in_err-note_mi.ensures.judges)

pub returns-in_default-clause-answers : goal.returns-in_default-clause-answers
returns-in_default-clause-answers g c settings users r stands comes =
    let s = c.args.station in
    let now = c.self.inside in
    let st = subst (λ lan. StandsFor settings users lan r) (sym c.self.view_is) stands in
    let there = (place-of settings users r _ st s comes).1.1 in
    absurd (came-not (Restarts settings r s there.seat there.alive c.in_ok-draw.draw now.seats c.restart.new.self)
    c.in_ok-event_facts.field-0 c.in_default.is
    (c.in_ok-event_facts.ensures settings r there.seat there.alive there.there there.seated.0))

pub returns-clause-answers : goal.returns-clause-answers
returns-clause-answers g c settings users r stands comes =
    let s = c.args.station in
    let now = c.self.inside in
    let new = c.restart.new.self in
    let draw = c.in_ok-draw.draw in
    let nth = g.D.Draws.nth c.args.draws.now in
    let after = g.D.Draws.nth c.draw.new.self in
    let st = subst (λ lan. StandsFor settings users lan r) (sym c.self.view_is) stands in
    let place = place-of settings users r _ st s comes in
    let there = place.1.1 in
    let first : nth 0 ≡ Some draw = sym c.draw.ensures.next ∙ c.in_ok-draw.ensures.ok_part in
    let taken : (k : ℕ) → after k ≡ nth (k + 1) =
    subst (λ o. OnSome o ((k : ℕ) → after k ≡ nth (k + 1))) c.in_ok-draw.ensures.ok_part c.draw.ensures.taken in
    let did = came-so (Restarts settings r s there.seat there.alive draw now.seats new) c.in_ok-event_facts.field-0
    c.in-Some.event_facts c.in-Some.is (c.in_ok-event_facts.ensures settings r there.seat there.alive there.there there.seated.0) in
    let goes : stop_of now.drawn (number_of_mi now.drawn (drawn_mi draw)) ≡ None =
    subst (λ mi. stop_of now.drawn (number_of_mi now.drawn mi) ≡ None) c.mi_of.ensures c.in_ok-note_mi.ensures.judges in
    let noted = subst (λ mi. MiIsNoted now.drawn c.note_mi.new.drawn mi) c.mi_of.ensures c.in_ok-note_mi.ensures.noted in
    restart-goes-on settings users r _ st s place.0 place.1.0 there draw new c.in-Some.event_facts did nth after first taken goes
    c.note_mi.new.drawn noted
