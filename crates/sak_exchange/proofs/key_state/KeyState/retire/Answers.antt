use Rattle.std.proofs.Common.{◌∷◌, ◌≡◌, ◌∙◌, false, true, ap, sym, subst, rules, Option, None}
use Rattle.sak_exchange.specs.declared.held_key.HeldKey.{HeldKey}
use Rattle.sak_exchange.specs.Histories.{ticked}
use Rattle.sak_exchange.specs.Standing.{State, StandsFor}
use Rattle.sak_exchange.specs.inside.States.{retires_now, after_retiring}
use Rattle.sak_exchange.proofs.Ticks.{stands-retired, retires-none, retires-some, stands-same}
use Rattle.sak_exchange.proofs.key_state.KeyState.retire.Goals as goal

pub returns-in_default-clause-stands : goal.returns-in_default-clause-stands
returns-in_default-clause-stands c = λ base own h s.
    let s0 = c.args.self.now in
    let none = retires-none (retires_now s0) s0.former (sym c.retired.ensures ∙ c.in_default.is) in
    let same : after_retiring s0 ≡ s0 = ap (λ (o : Option HeldKey). let t : State = record s0 { former = o } in t) (sym none) in
    subst (λ (t : State). StandsFor base own false t (ticked true ∷ h)) same (stands-retired base own s0 h s)

pub returns-clause-stands : goal.returns-clause-stands
returns-clause-stands c = λ base own h s.
    let s0 = c.args.self.now in
    let gone = retires-some (retires_now s0) s0.former c.in-Some.key (sym c.retired.ensures ∙ c.in-Some.is) in
    let same : after_retiring s0 ≡ (let t : State = record s0 { former = None } in t) = ap (λ (o : Option HeldKey). let t : State = record s0 { former = o } in t) (sym gone) in
    stands-same _ _ (search (rules, c.self.view_is)) (subst (λ (t : State). StandsFor base own false t (ticked true ∷ h)) same (stands-retired base own s0 h s))
