use Rattle.std.proofs.Common.{◌≡◌, ◌∙◌, ◌+◌, ◌<◌, ◌≤◌, ℕ, [], ◌∷◌, length, Some, None, refl, ap, sym, subst, arith}
use Rattle.std.specs.Prelude.{OnSome}
use Rattle.std.specs.Option.{ok_or}
use Rattle.mka_station.specs.Standing.{born, drawn_mi}
use Rattle.lan_core.specs.declared.event.Event.TheVariants as events
use Rattle.lan_core.specs.declared.fact.Fact.TheVariants as facts
use Rattle.lan_core.specs.declared.settings.Settings.{Settings}
use Rattle.lan_core.specs.declared.stop.Stop.TheVariants.{DrawsSpent}
use Rattle.lan_core.specs.Lives.{setup_of}
use Rattle.lan_core.specs.Order.{most_stations}
use Rattle.lan_core.specs.declared.stop.StepError.TheVariants.{Memory}
use Rattle.lan_core.specs.Standing.{Sits, State, StandsFor, number_of_mi}
use Rattle.lan_core.specs.Noting.{MiIsNoted}
use Rattle.lan_core.specs.inside.Drawing.{stop_of}
use Rattle.lan_core.proofs.RefusalPassedOn.{refused, stopped, by-part}
use Rattle.lan_core.proofs.SeatGoesOn.{on-err}
use Rattle.lan_core.proofs.RestartGoesOn.{no-draw}
use Rattle.lan_core.proofs.StartGoesOn.{profile_of, start-fits, start-full, start-goes-on}
use Rattle.lan_core.proofs.lan.Lan.start.Goals as goal

pub returns-in_err-draw-clause-answers : goal.returns-in_err-draw-clause-answers
returns-in_err-draw-clause-answers g c settings users r stands comes =
    let e = events.Start c.args.name c.args.sci c.args.priority in
    let nth = g.D.Draws.nth c.args.draws.now in
    let none : nth 0 ≡ None = sym c.draw.ensures.next ∙ c.in_err-draw.ensures.ok_part in
    let spent : c.in_err-draw.field-0.0 ≡ DrawsSpent =
    cc (c.in_err-draw.ensures.value, ap (λ o. ok_or o DrawsSpent) c.in_err-draw.ensures.ok_part) in
    stopped settings users r e nth _ _ _ _ c.from_residual.ensures.1
    (no-draw settings users r e nth refl none ∙ ap (λ stop. Some stop) (sym spent))

pub returns-in_err-place-clause-answers : goal.returns-in_err-place-clause-answers
returns-in_err-place-clause-answers g c settings users r stands comes =
    let now = c.self.inside in
    let nth = g.D.Draws.nth c.args.draws.now in
    let st = subst (λ lan. StandsFor settings users lan r) (sym c.self.view_is) stands in
    let first : nth 0 ≡ Some c.in_ok-draw.draw = sym c.draw.ensures.next ∙ c.in_ok-draw.ensures.ok_part in
    let full : most_stations ≤ length now.names = omega (arith, c.in_err-place.ensures.full.1, c.len.ensures) in
    stopped settings users r (events.Start c.args.name c.args.sci c.args.priority) nth _ _ _ _ c.from_residual-in_err-place.ensures.1
    (start-full settings users r _ st c.args.name c.args.sci c.args.priority c.in_ok-draw.draw nth first full
    ∙ ap (λ stop. Some stop) (sym c.in_err-place.ensures.full.0))

pub returns-in_err-note_mi-clause-answers : goal.returns-in_err-note_mi-clause-answers
returns-in_err-note_mi-clause-answers g c settings users r stands comes =
    let now = c.self.inside in
    let nth = g.D.Draws.nth c.args.draws.now in
    let st = subst (λ lan. StandsFor settings users lan r) (sym c.self.view_is) stands in
    let first : nth 0 ≡ Some c.in_ok-draw.draw = sym c.draw.ensures.next ∙ c.in_ok-draw.ensures.ok_part in
    let room : length now.names < most_stations = omega (arith, c.in_ok-place.ensures.place.1, c.len.ensures) in
    refused settings users r (events.Start c.args.name c.args.sci c.args.priority) nth _ _ _ _ c.from_residual-in_err-note_mi.ensures.1
    (by-part _ _ _ (start-fits settings users r _ st c.args.name c.args.sci c.args.priority c.in_ok-draw.draw nth first room
    ∙ ap (λ mi. stop_of now.drawn (number_of_mi now.drawn mi)) (sym c.mi_of-mi.ensures)) c.in_err-note_mi.ensures.judges)

pub returns-clause-answers : goal.returns-clause-answers
returns-clause-answers g c settings users r stands comes =
    let now = c.self.inside in
    let draw = c.in_ok-draw.draw in
    let nth = g.D.Draws.nth c.args.draws.now in
    let after = g.D.Draws.nth c.draw.new.self in
    let st = subst (λ lan. StandsFor settings users lan r) (sym c.self.view_is) stands in
    let first : nth 0 ≡ Some draw = sym c.draw.ensures.next ∙ c.in_ok-draw.ensures.ok_part in
    let taken : (k : ℕ) → after k ≡ nth (k + 1) =
    subst (λ o. OnSome o ((k : ℕ) → after k ≡ nth (k + 1))) c.in_ok-draw.ensures.ok_part c.draw.ensures.taken in
    let room : length now.names < most_stations = omega (arith, c.in_ok-place.ensures.place.1, c.len.ensures) in
    let goes : stop_of now.drawn (number_of_mi now.drawn (drawn_mi draw)) ≡ None =
    subst (λ mi. stop_of now.drawn (number_of_mi now.drawn mi) ≡ None) c.mi_of-mi.ensures c.in_ok-note_mi.ensures.judges in
    let noted = subst (λ mi. MiIsNoted now.drawn c.note_mi.new.drawn mi) c.mi_of-mi.ensures c.in_ok-note_mi.ensures.noted in
    let sits = subst (λ (q : Settings). Sits q.window (record { member = born (setup_of q (profile_of c.args.name c.args.sci c.args.priority)) 0 draw; past = [] }) [] c.in_ok-seat.seat)
    (c.settings.ensures.settings ∙ st.set_up) c.in_ok-seat.ensures in
    let placed : c.in_ok-place.place ≡ length now.names = omega (arith, c.in_ok-place.ensures.place.0, c.len.ensures) in
    let mi : c.mi_of-mi.result ≡ drawn_mi draw = c.mi_of-mi.ensures in
    let told : c.in_ok-facts.facts ≡ facts.Life (length now.names) (drawn_mi draw) ∷ [] =
    c.in_ok-facts.ensures ∙ (λ i. facts.Life (placed i) (mi i) ∷ []) in
    start-goes-on settings users r _ st c.args.name c.args.sci c.args.priority draw room c.in_ok-seat.seat sits nth after first taken goes
    c.note_mi.new.drawn noted c.in_ok-facts.facts told c.push-2.new.self c.in_ok-push-2.ensures.ok c.push.new.self c.in_ok-push.ensures

pub returns-in_err-facts-clause-answers : goal.returns-in_err-facts-clause-answers
returns-in_err-facts-clause-answers g c settings users r stands comes =
    refused settings users r (events.Start c.args.name c.args.sci c.args.priority)
    (g.D.Draws.nth c.args.draws.now) _ _ _ Memory c.from_residual-in_err-facts.ensures.1 tt

pub returns-in_err-facts-clause-shown : goal.returns-in_err-facts-clause-shown
returns-in_err-facts-clause-shown g c =
    on-err c.from_residual-in_err-facts.result
    (ap (λ (lan : State). lan.air) c.self.view_is, ap (λ (lan : State). lan.names) c.self.view_is)
