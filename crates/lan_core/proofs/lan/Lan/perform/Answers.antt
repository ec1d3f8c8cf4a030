use Rattle.std.proofs.Common.{◌≡◌, ◌∙◌, ap, sym, subst}
use Rattle.std.specs.Option.{option_copied}
use Rattle.lan_core.specs.declared.event.Event.{Event}
use Rattle.lan_core.specs.declared.event.Event.TheVariants as events
use Rattle.lan_core.specs.Stops.{MayCome}
use Rattle.lan_core.specs.Answers.{Answers}
use Rattle.lan_core.proofs.lan.Lan.perform.Goals as goal

pub returns-in-Deliver-clause-answers : goal.returns-in-Deliver-clause-answers
returns-in-Deliver-clause-answers g c settings users r stands comes =
    let nth = g.D.Draws.nth c.args.draws.now in
    subst (λ (e : Event). Answers settings users r e nth nth c.deliver.new.self c.deliver.result) (sym c.in-Deliver.is)
    (c.deliver.ensures.answers settings users r nth stands
    (subst (λ (e : Event). MayCome settings users r (option_copied c.args.user) e) c.in-Deliver.is comes))

pub returns-in-Claim-clause-answers : goal.returns-in-Claim-clause-answers
returns-in-Claim-clause-answers g c settings users r stands comes =
    let nth = g.D.Draws.nth c.args.draws.now in
    subst (λ (e : Event). Answers settings users r e nth nth c.claim.new.self c.claim.result) (sym c.in-Claim.is)
    (c.claim.ensures.answers settings users r nth c.in-Claim.user stands
    (subst (λ (e : Event). MayCome settings users r (option_copied c.args.user) e) c.in-Claim.is comes))

pub returns-in-Emit-clause-answers : goal.returns-in-Emit-clause-answers
returns-in-Emit-clause-answers g c settings users r stands comes =
    let nth = g.D.Draws.nth c.args.draws.now in
    subst (λ (e : Event). Answers settings users r e nth nth c.emit.new.self c.emit.result) (sym c.in-Emit.is)
    (c.emit.ensures.answers settings users r nth stands
    (subst (λ (e : Event). MayCome settings users r (option_copied c.args.user) e) c.in-Emit.is comes))

pub returns-in-Inject-clause-answers : goal.returns-in-Inject-clause-answers
returns-in-Inject-clause-answers g c settings users r stands comes =
    let nth = g.D.Draws.nth c.args.draws.now in
    let is : events.Inject c.in-Inject.station c.as_slice.result.now ≡ c.args.event.now =
    ap (λ o. events.Inject c.in-Inject.station o) c.as_slice.ensures.value ∙ sym c.in-Inject.is in
    subst (λ (e : Event). Answers settings users r e nth nth c.inject.new.self c.inject.result) is
    (c.inject.ensures.answers settings users r nth stands
    (subst (λ (e : Event). MayCome settings users r (option_copied c.args.user) e) (sym is) comes))
