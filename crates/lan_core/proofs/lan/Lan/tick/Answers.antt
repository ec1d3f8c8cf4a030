use Rattle.std.proofs.Common.{◌≡◌, ◌+◌, length, ap, sym, subst}
use Rattle.lan_base.specs.Suites.{sak_draws}
use Rattle.lan_core.specs.declared.event.Event.TheVariants as events
use Rattle.lan_core.specs.Ledgers.{air, next_frame}
use Rattle.lan_core.specs.Lives.{drawn_sak}
use Rattle.lan_core.specs.Standing.{StandsFor}
use Rattle.lan_core.specs.inside.Seats.{Ticks}
use Rattle.lan_core.specs.Answers.{GoesOn}
use Rattle.lan_core.specs.inside.Drawing.{IfNoted}
use Rattle.lan_core.proofs.CarriedOver.{order-length}
use Rattle.lan_core.proofs.FewCounts.{never-past}
use Rattle.lan_core.proofs.OctetsReach.{place-of, came-so, came-not}
use Rattle.lan_core.proofs.RefusalPassedOn.{refused, refused-fault, by-part}
use Rattle.lan_core.proofs.TickGoesOn.{tick-goes-on, tick-stops, tick-is-spent}
use Rattle.lan_core.proofs.lan.Lan.tick.Goals as goal

pub returns-clause-answers : goal.returns-clause-answers
returns-clause-answers g c settings users r stands comes =
    let s = c.args.station in
    let now = c.self.inside in
    let new = c.tick.new.self in
    let before = g.D.Draws.nth c.args.draws.now in
    let after = g.D.Draws.nth c.tick.new.draws in
    let st = subst (λ lan. StandsFor settings users lan r) (sym c.self.view_is) stands in
    let numbered : c.next_number-number.result ≡ next_frame r =
    cc (c.next_number-number.ensures, ap (λ fs. length fs + 1) st.on_air, ap (λ n. n + 1) (order-length (air r))) in
    let place = place-of settings users r _ st s comes.0 in
    let there = place.1.1 in
    let did = came-so (Ticks settings r s there.seat there.alive c.args.next before after now.seats new)
    c.in_ok-event_facts.field-0 c.in-Some.event_facts c.in-Some.is
    (c.in_ok-event_facts.ensures.event_facts settings r there.seat there.alive there.there there.seated.0 numbered) in
    let noted = subst (λ q. IfNoted (sak_draws q.suite) now.drawn c.count_tick.new.self.drawn (drawn_sak c.in-Some.event_facts.facts))
    st.set_up c.in_ok-count_tick.ensures.drawn in
    subst (λ lan. GoesOn settings users r (events.Tick s c.args.next) before after lan c.in-Some.event_facts.facts)
    (sym c.in_ok-count_tick.ensures.ticked)
    (tick-goes-on settings users r _ st s c.args.next place.0 place.1.0 there before after new c.in-Some.event_facts did
    c.in_ok-count_tick.ensures.judges c.count_tick.new.self.drawn noted)

pub returns-in_err-event_facts-clause-answers : goal.returns-in_err-event_facts-clause-answers
returns-in_err-event_facts-clause-answers g c settings users r stands comes =
    let s = c.args.station in
    let before = g.D.Draws.nth c.args.draws.now in
    let st = subst (λ lan. StandsFor settings users lan r) (sym c.self.view_is) stands in
    let place = place-of settings users r _ st s comes.0 in
    let there = place.1.1 in
    refused-fault settings users r (events.Tick s c.args.next) before _ _ _ _ _
    c.from_residual-in_err-event_facts.ensures.1
    (c.in_err-event_facts.ensures.spent settings r there.seat there.alive there.there there.seated.0)
    (tick-is-spent settings users r _ s c.args.next place.0 there before (g.met.D.Draws.ends c.args.draws.now 0))

pub returns-in_default-clause-answers : goal.returns-in_default-clause-answers
returns-in_default-clause-answers g c settings users r stands comes =
    let s = c.args.station in
    let now = c.self.inside in
    let before = g.D.Draws.nth c.args.draws.now in
    let after = g.D.Draws.nth c.tick.new.draws in
    let st = subst (λ lan. StandsFor settings users lan r) (sym c.self.view_is) stands in
    let numbered : c.next_number-number.result ≡ next_frame r =
    cc (c.next_number-number.ensures, ap (λ fs. length fs + 1) st.on_air, ap (λ n. n + 1) (order-length (air r))) in
    let there = (place-of settings users r _ st s comes.0).1.1 in
    absurd (came-not (Ticks settings r s there.seat there.alive c.args.next before after now.seats c.tick.new.self)
    c.in_ok-event_facts.field-0 c.in_default.is
    (c.in_ok-event_facts.ensures.event_facts settings r there.seat there.alive there.there there.seated.0 numbered))

pub returns-in_err-count_tick-clause-answers : goal.returns-in_err-count_tick-clause-answers
returns-in_err-count_tick-clause-answers g c settings users r stands comes =
    let s = c.args.station in
    let now = c.self.inside in
    let new = c.tick.new.self in
    let before = g.D.Draws.nth c.args.draws.now in
    let after = g.D.Draws.nth c.tick.new.draws in
    let st = subst (λ lan. StandsFor settings users lan r) (sym c.self.view_is) stands in
    let numbered : c.next_number-number.result ≡ next_frame r =
    cc (c.next_number-number.ensures, ap (λ fs. length fs + 1) st.on_air, ap (λ n. n + 1) (order-length (air r))) in
    let place = place-of settings users r _ st s comes.0 in
    let there = place.1.1 in
    let did = came-so (Ticks settings r s there.seat there.alive c.args.next before after now.seats new)
    c.in_ok-event_facts.field-0 c.in-Some.event_facts c.in-Some.is
    (c.in_ok-event_facts.ensures.event_facts settings r there.seat there.alive there.there there.seated.0 numbered) in
    refused settings users r (events.Tick s c.args.next) before _ _ _ _ c.from_residual-in_err-count_tick.ensures.1
    (by-part _ _ _ (tick-stops settings users r _ st s c.args.next place.0 there before after new c.in-Some.event_facts did)
    c.in_err-count_tick.ensures.judges)

pub returns-in_err-judge_counts-clause-answers : goal.returns-in_err-judge_counts-clause-answers
returns-in_err-judge_counts-clause-answers g c settings users r stands comes =
    let st = subst (λ lan. StandsFor settings users lan r) (sym c.self.view_is) stands in
    let place = place-of settings users r _ st c.args.station comes.0 in
    absurd (never-past settings users r _ st c.args.station place.0 place.1.1 c.in_err-judge_counts.ensures.past)
