use Rattle.std.proofs.Common.{◌≡◌, ◌+◌, ◌∷◌, ◌++◌, [], true, length, refl, sym, subst, None}
use Rattle.std.specs.Prelude.{option_map}
use Rattle.lan_core.specs.declared.fact.Fact.TheVariants as facts
use Rattle.lan_core.specs.declared.stop.Stop.TheVariants.{Limit}
use Rattle.lan_core.specs.Standing.{StandsFor}
use Rattle.lan_core.specs.inside.Limits.{passed_with}
use Rattle.lan_core.proofs.EmissionGoesOn.{emission-stops, emission-goes-on, next-is, none-waits, judged}
use Rattle.lan_core.specs.declared.event.Event.TheVariants as events
use Rattle.lan_core.proofs.LimitsPassed.{light-where}
use Rattle.lan_core.proofs.RefusalPassedOn.{stopped}
use Rattle.lan_core.proofs.lan.Lan.emit.Goals as goal

pub returns-clause-answers : goal.returns-clause-answers
returns-clause-answers c settings users r nth stands comes =
    let now = c.self.inside in
    let frame = c.in-Some.frame in
    let rest = c.pop.new.self in
    let number = c.next_number-number.result in
    let st = subst (λ lan. StandsFor settings users lan r) (sym c.self.view_is) stands in
    let waits : now.waiting ≡ frame ∷ rest = c.in-Some.ensures.front in
    let counted : number ≡ length now.air + 1 = c.next_number-number.ensures in
    let within : option_map Limit (passed_with (now.air ++ frame.octets ∷ []) now.ticks 0 (length now.names)) ≡ None =
    judged c.extent.result _ None c.extent.ensures c.in_ok-judge.ensures in
    let told : c.in_ok-facts.facts ≡ facts.Framed number frame.station true c.in_ok-octets.octets ∷ [] = c.in_ok-facts.ensures in
    let copied : c.in_ok-octets.octets ≡ frame.octets = c.in_ok-octets.ensures in
    let put : c.push.new.self ≡ now.air ++ frame.octets ∷ [] = c.in_ok-push.ensures.ok in
    emission-goes-on settings users r _ st nth frame rest waits number counted within c.in_ok-facts.facts
    (cc (told, copied)) c.push.new.self put

pub returns-in_default-clause-answers : goal.returns-in_default-clause-answers
returns-in_default-clause-answers c settings users r nth stands comes =
    let st = subst (λ lan. StandsFor settings users lan r) (sym c.self.view_is) stands in
    let none = none-waits settings users r _ st c.in_default.ensures.empty in
    absurd (cc (comes, none))

pub returns-in_err-judge-clause-answers : goal.returns-in_err-judge-clause-answers
returns-in_err-judge-clause-answers c settings users r nth stands comes =
    let now = c.self.inside in
    let frame = c.in-Some.frame in
    let st = subst (λ lan. StandsFor settings users lan r) (sym c.self.view_is) stands in
    let next = next-is settings users r _ st frame c.pop.new.self c.in-Some.ensures.front in
    let first = emission-stops settings users r _ st nth frame c.pop.new.self next in
    let here = judged c.extent.result _ _ c.extent.ensures refl in
    stopped settings users r events.Emit nth nth _ _ _ c.from_residual.ensures.1
    (cc (first, here, c.in_err-judge.ensures))

pub push-requires : goal.push-requires
push-requires c =
    let now = c.self.inside in
    let frame = c.in-Some.frame in
    let within : option_map Limit (passed_with (now.air ++ frame.octets ∷ []) now.ticks 0 (length now.names)) ≡ None =
    judged c.extent.result _ None c.extent.ensures c.in_ok-judge.ensures in
    light-where (now.air ++ frame.octets ∷ []) now.ticks 0 (length now.names) within
