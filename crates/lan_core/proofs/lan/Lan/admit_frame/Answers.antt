use Rattle.std.proofs.Common.{◌∙◌, refl, sym, subst}
use Rattle.lan_core.specs.declared.event.Event.TheVariants as events
use Rattle.lan_core.specs.Standing.{StandsFor}
use Rattle.lan_core.specs.inside.Seats.{Reaches}
use Rattle.lan_core.proofs.Admitted.{its-check}
use Rattle.lan_core.proofs.CarriedOver.{is-there}
use Rattle.lan_core.proofs.OctetsReach.{delivers, reach-goes-on, reach-stops, or-none, came-so, came-not}
use Rattle.lan_core.proofs.RefusalPassedOn.{stopped}
use Rattle.lan_core.proofs.lan.Lan.admit_frame.Goals as goal

pub returns-clause-answers : goal.returns-clause-answers
returns-clause-answers c settings users r nth stands checks =
    let s = c.args.station in
    let n = c.args.number in
    let now = c.self.inside in
    let new = c.admit.new.self in
    let octets = checks.frame.octets in
    let p = checks.profile in
    let st = subst (λ lan. StandsFor settings users lan r) (sym c.self.view_is) stands in
    let there = is-there settings s r now.seats p (st.seats s) checks.station in
    let reaches = came-so (Reaches settings r s there.seat there.alive n octets now.seats new) c.in_ok-event_facts.field-0
    c.in-Some.event_facts c.in-Some.is (c.in_ok-event_facts.ensures settings r there.seat there.alive octets there.there there.seated.0
    checks.protected (its-check settings r n s c.args.checked checks there)) in
    reach-goes-on settings users r _ st (events.Deliver n s) s n octets
    (delivers settings users r n s checks.frame checks.found) p checks.station there new c.in-Some.event_facts reaches nth
    c.in_ok-judge_installs.ensures refl

pub returns-in_default-clause-answers : goal.returns-in_default-clause-answers
returns-in_default-clause-answers c settings users r nth stands checks =
    let s = c.args.station in
    let n = c.args.number in
    let now = c.self.inside in
    let octets = checks.frame.octets in
    let st = subst (λ lan. StandsFor settings users lan r) (sym c.self.view_is) stands in
    let there = is-there settings s r now.seats checks.profile (st.seats s) checks.station in
    absurd (came-not (Reaches settings r s there.seat there.alive n octets now.seats c.admit.new.self)
    c.in_ok-event_facts.field-0 c.in_default.is
    (c.in_ok-event_facts.ensures settings r there.seat there.alive octets there.there there.seated.0
    checks.protected (its-check settings r n s c.args.checked checks there)))

pub returns-in_err-judge_installs-clause-answers : goal.returns-in_err-judge_installs-clause-answers
returns-in_err-judge_installs-clause-answers c settings users r nth stands checks =
    let s = c.args.station in
    let n = c.args.number in
    let now = c.self.inside in
    let new = c.admit.new.self in
    let octets = checks.frame.octets in
    let p = checks.profile in
    let st = subst (λ lan. StandsFor settings users lan r) (sym c.self.view_is) stands in
    let there = is-there settings s r now.seats p (st.seats s) checks.station in
    let reaches = came-so (Reaches settings r s there.seat there.alive n octets now.seats new) c.in_ok-event_facts.field-0
    c.in-Some.event_facts c.in-Some.is (c.in_ok-event_facts.ensures settings r there.seat there.alive octets there.there there.seated.0
    checks.protected (its-check settings r n s c.args.checked checks there)) in
    let first = reach-stops settings users r _ st (events.Deliver n s) s n octets
    (delivers settings users r n s checks.frame checks.found) p there new c.in-Some.event_facts reaches nth in
    stopped settings users r (events.Deliver n s) nth nth _ _ _ c.from_residual-in_err-judge_installs.ensures.1
    (or-none _ _ first ∙ c.in_err-judge_installs.ensures)
