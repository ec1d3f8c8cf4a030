use Rattle.std.proofs.Common.{◌≡◌, ◌∙◌, None, sym, subst}
use Rattle.lan_core.specs.declared.event.Event.TheVariants as events
use Rattle.lan_core.specs.Answers.{GoesOn, IsWhy}
use Rattle.lan_core.specs.declared.settings.Settings.{Settings}
use Rattle.lan_core.proofs.JudgedAlike.{set-up-alike}
use Rattle.lan_core.specs.Stops.{stop_of_forgery}
use Rattle.lan_core.specs.Standing.{StandsFor}
use Rattle.lan_core.specs.inside.Seats.{Reaches}
use Rattle.lan_core.proofs.FewCounts.{never-past}
use Rattle.lan_core.proofs.OctetsReach.{reach-goes-on, reach-stops, injects, place-of, came-so, came-not, or-later}
use Rattle.lan_core.proofs.RefusalPassedOn.{refused, stopped, by-part, by-first}
use Rattle.lan_core.proofs.lan.Lan.inject.Goals as goal

pub returns-clause-answers : goal.returns-clause-answers
returns-clause-answers c settings users r nth stands comes =
    let s = c.args.station in
    let octets = c.args.octets.now in
    let now = c.self.inside in
    let new = c.reach.new.self in
    let st = subst (λ lan. StandsFor settings users lan r) (sym c.self.view_is) stands in
    let place = place-of settings users r _ st s comes.0 in
    let there = place.1.1 in
    let of = set-up-alike now.judge.settings settings place.0 there.alive.member.setup st.set_up there.seated.1 in
    let reaches = came-so (Reaches settings r s there.seat there.alive 0 octets now.seats new) c.in_ok-event_facts.field-0
    c.in-Some.event_facts c.in-Some.is (c.in_ok-event_facts.ensures.event_facts settings r there.seat there.alive there.there there.seated.0 of) in
    subst (λ (q : Settings). GoesOn settings users r (events.Inject s octets) nth nth (record {
      settings = q;
      stopped = now.stopped;
      names = now.names;
      air = now.air;
      seats = new;
      waiting = now.waiting;
      ticks = now.ticks;
      drawn = now.drawn;
    }) c.in-Some.event_facts.facts)
    (sym (c.in_ok-judge_forgery.ensures.kept ∙ c.in_ok-event_facts.ensures.kept))
    (reach-goes-on settings users r _ st (events.Inject s octets) s 0 octets
    (injects settings users r s octets) place.0 place.1.0 there new c.in-Some.event_facts reaches nth
    c.in_ok-judge_installs.ensures
    (subst (λ q. stop_of_forgery q r (events.Inject s octets) ≡ None) (c.in_ok-event_facts.ensures.kept ∙ st.set_up)
    (c.in_ok-judge_forgery.ensures.judges r st.on_air comes.0)))

pub returns-in_default-clause-answers : goal.returns-in_default-clause-answers
returns-in_default-clause-answers c settings users r nth stands comes =
    let s = c.args.station in
    let now = c.self.inside in
    let st = subst (λ lan. StandsFor settings users lan r) (sym c.self.view_is) stands in
    let place = place-of settings users r _ st s comes.0 in
    let there = place.1.1 in
    let of = set-up-alike now.judge.settings settings place.0 there.alive.member.setup st.set_up there.seated.1 in
    absurd (came-not (Reaches settings r s there.seat there.alive 0 c.args.octets.now now.seats c.reach.new.self)
    c.in_ok-event_facts.field-0 c.in_default.is
    (c.in_ok-event_facts.ensures.event_facts settings r there.seat there.alive there.there there.seated.0 of))

pub returns-in_err-judge_installs-clause-answers : goal.returns-in_err-judge_installs-clause-answers
returns-in_err-judge_installs-clause-answers c settings users r nth stands comes =
    let s = c.args.station in
    let octets = c.args.octets.now in
    let now = c.self.inside in
    let new = c.reach.new.self in
    let st = subst (λ lan. StandsFor settings users lan r) (sym c.self.view_is) stands in
    let place = place-of settings users r _ st s comes.0 in
    let there = place.1.1 in
    let of = set-up-alike now.judge.settings settings place.0 there.alive.member.setup st.set_up there.seated.1 in
    let reaches = came-so (Reaches settings r s there.seat there.alive 0 octets now.seats new) c.in_ok-event_facts.field-0
    c.in-Some.event_facts c.in-Some.is (c.in_ok-event_facts.ensures.event_facts settings r there.seat there.alive there.there there.seated.0 of) in
    let first = reach-stops settings users r _ st (events.Inject s octets) s 0 octets
    (injects settings users r s octets) place.0 there new c.in-Some.event_facts reaches nth in
    stopped settings users r (events.Inject s octets) nth nth _ _ _ c.from_residual-in_err-judge_installs.ensures.1
    (by-first _ _ _ _ first c.in_err-judge_installs.ensures)

pub returns-in_err-judge_forgery-clause-answers : goal.returns-in_err-judge_forgery-clause-answers
returns-in_err-judge_forgery-clause-answers c settings users r nth stands comes =
    let s = c.args.station in
    let octets = c.args.octets.now in
    let now = c.self.inside in
    let new = c.reach.new.self in
    let st = subst (λ lan. StandsFor settings users lan r) (sym c.self.view_is) stands in
    let place = place-of settings users r _ st s comes.0 in
    let there = place.1.1 in
    let of = set-up-alike now.judge.settings settings place.0 there.alive.member.setup st.set_up there.seated.1 in
    let reaches = came-so (Reaches settings r s there.seat there.alive 0 octets now.seats new) c.in_ok-event_facts.field-0
    c.in-Some.event_facts c.in-Some.is (c.in_ok-event_facts.ensures.event_facts settings r there.seat there.alive there.there there.seated.0 of) in
    let first = reach-stops settings users r _ st (events.Inject s octets) s 0 octets
    (injects settings users r s octets) place.0 there new c.in-Some.event_facts reaches nth in
    refused settings users r (events.Inject s octets) nth nth _ _ _ c.from_residual-in_err-judge_forgery.ensures.1
    (by-part _ _ _ (or-later _ _ _ first c.in_ok-judge_installs.ensures)
    (subst (λ q. IsWhy (stop_of_forgery q r (events.Inject s octets)) c.in_err-judge_forgery.field-0.0) (c.in_ok-event_facts.ensures.kept ∙ st.set_up)
    (c.in_err-judge_forgery.ensures.judges r st.on_air comes.0)))

pub returns-in_err-judge_counts-clause-answers : goal.returns-in_err-judge_counts-clause-answers
returns-in_err-judge_counts-clause-answers c settings users r nth stands comes =
    let st = subst (λ lan. StandsFor settings users lan r) (sym c.self.view_is) stands in
    let place = place-of settings users r _ st c.args.station comes.0 in
    absurd (never-past settings users r _ st c.args.station place.0 place.1.1 c.in_err-judge_counts.ensures.past)
