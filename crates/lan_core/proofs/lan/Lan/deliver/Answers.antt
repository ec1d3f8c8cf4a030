use Rattle.std.proofs.Common.{◌≡◌, ◌∙◌, Some, refl, ap, sym, subst}
use Rattle.std.specs.Option.{option_copied}
use Rattle.lan_core.specs.declared.event.Event.TheVariants as events
use Rattle.lan_core.specs.Standing.{StandsFor, octets_at}
use Rattle.lan_core.specs.inside.Seats.{Reaches}
use Rattle.lan_core.specs.Answers.{GoesOn}
use Rattle.lan_core.specs.declared.settings.Settings.{Settings}
use Rattle.lan_core.proofs.JudgedAlike.{set-up-alike}
use Rattle.lan_core.proofs.FewCounts.{never-past}
use Rattle.lan_core.proofs.OctetsReach.{reach-goes-on, reach-stops, or-none, delivered, place-of, no-frame, came-so, came-not}
use Rattle.lan_core.proofs.RefusalPassedOn.{stopped}
use Rattle.lan_core.proofs.lan.Lan.deliver.Goals as goal

pub returns-clause-answers : goal.returns-clause-answers
returns-clause-answers c settings users r nth stands comes =
    let s = c.args.station in
    let n = c.args.frame in
    let now = c.self.inside in
    let new = c.reach.new.self in
    let octets = c.in-Some.octets.now in
    let st = subst (λ lan. StandsFor settings users lan r) (sym c.self.view_is) stands in
    let at : octets_at now.air n ≡ Some octets =
    cc (c.frame.ensures.frame, ap (λ o. option_copied o) c.in-Some.is) in
    let place = place-of settings users r _ st s comes.0 in
    let there = place.1.1 in
    let of = set-up-alike now.judge.settings settings place.0 there.alive.member.setup st.set_up there.seated.1 in
    let reaches = came-so (Reaches settings r s there.seat there.alive n octets now.seats new) c.in_ok-event_facts.field-0
    c.in-Some-2.event_facts c.in-Some-2.is (c.in_ok-event_facts.ensures.event_facts settings r there.seat there.alive there.there there.seated.0 of) in
    subst (λ (q : Settings). GoesOn settings users r (events.Deliver n s) nth nth (record {
      settings = q;
      stopped = now.stopped;
      names = now.names;
      air = now.air;
      seats = new;
      waiting = now.waiting;
      ticks = now.ticks;
      drawn = now.drawn;
    }) c.in-Some-2.event_facts.facts)
    (sym c.in_ok-event_facts.ensures.kept)
    (reach-goes-on settings users r _ st (events.Deliver n s) s n octets
    (delivered settings users r _ st n s octets at) place.0 place.1.0 there new c.in-Some-2.event_facts reaches nth
    c.in_ok-judge_installs.ensures refl)

pub returns-in_default-clause-answers : goal.returns-in_default-clause-answers
returns-in_default-clause-answers c settings users r nth stands comes =
    let st = subst (λ lan. StandsFor settings users lan r) (sym c.self.view_is) stands in
    absurd (no-frame settings users r _ st c.args.frame (sym c.in_default.ensures.frame) comes.1)

pub returns-in_default-2-clause-answers : goal.returns-in_default-2-clause-answers
returns-in_default-2-clause-answers c settings users r nth stands comes =
    let s = c.args.station in
    let n = c.args.frame in
    let now = c.self.inside in
    let st = subst (λ lan. StandsFor settings users lan r) (sym c.self.view_is) stands in
    let place = place-of settings users r _ st s comes.0 in
    let there = place.1.1 in
    let of = set-up-alike now.judge.settings settings place.0 there.alive.member.setup st.set_up there.seated.1 in
    absurd (came-not (Reaches settings r s there.seat there.alive n c.in-Some.octets.now now.seats c.reach.new.self)
    c.in_ok-event_facts.field-0 c.in_default-2.is
    (c.in_ok-event_facts.ensures.event_facts settings r there.seat there.alive there.there there.seated.0 of))

pub returns-in_err-judge_installs-clause-answers : goal.returns-in_err-judge_installs-clause-answers
returns-in_err-judge_installs-clause-answers c settings users r nth stands comes =
    let s = c.args.station in
    let n = c.args.frame in
    let now = c.self.inside in
    let new = c.reach.new.self in
    let octets = c.in-Some.octets.now in
    let st = subst (λ lan. StandsFor settings users lan r) (sym c.self.view_is) stands in
    let at : octets_at now.air n ≡ Some octets =
    cc (c.frame.ensures.frame, ap (λ o. option_copied o) c.in-Some.is) in
    let place = place-of settings users r _ st s comes.0 in
    let there = place.1.1 in
    let of = set-up-alike now.judge.settings settings place.0 there.alive.member.setup st.set_up there.seated.1 in
    let reaches = came-so (Reaches settings r s there.seat there.alive n octets now.seats new) c.in_ok-event_facts.field-0
    c.in-Some-2.event_facts c.in-Some-2.is (c.in_ok-event_facts.ensures.event_facts settings r there.seat there.alive there.there there.seated.0 of) in
    let first = reach-stops settings users r _ st (events.Deliver n s) s n octets
    (delivered settings users r _ st n s octets at) place.0 there new c.in-Some-2.event_facts reaches nth in
    stopped settings users r (events.Deliver n s) nth nth _ _ _ c.from_residual-in_err-judge_installs.ensures.1
    (or-none _ _ first ∙ c.in_err-judge_installs.ensures)

pub returns-in_err-judge_counts-clause-answers : goal.returns-in_err-judge_counts-clause-answers
returns-in_err-judge_counts-clause-answers c settings users r nth stands comes =
    let st = subst (λ lan. StandsFor settings users lan r) (sym c.self.view_is) stands in
    let place = place-of settings users r _ st c.args.station comes.0 in
    absurd (never-past settings users r _ st c.args.station place.0 place.1.1 c.in_err-judge_counts.ensures.past)
