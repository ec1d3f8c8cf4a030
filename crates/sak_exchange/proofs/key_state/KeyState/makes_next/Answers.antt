use Rattle.std.proofs.Common.{◌≡◌, ◌∙◌, ◌∷◌, ap, sym, subst, true, false, is_none}
use Rattle.sak_exchange.specs.Histories.{ticked}
use Rattle.sak_exchange.specs.Beginning.{leads}
use Rattle.sak_exchange.specs.Standing.{State, StandsFor}
use Rattle.sak_exchange.specs.inside.States.{ticked_now}
use Rattle.sak_exchange.proofs.Ticks.{stands-ticked, stands-retired}
use Rattle.sak_exchange.proofs.Begins.{none-led, none-tested}
use Rattle.sak_exchange.proofs.Makes.{makes-told}
use Rattle.sak_exchange.proofs.key_state.KeyState.makes_next.Goals.{then-is_none, else-is_none}
use Rattle.sak_exchange.proofs.key_state.KeyState.makes_next.Goals as goal

pub returns-clause-value : goal.returns-clause-value
returns-clause-value c = λ base own h s.
    let d = c.args.due.now in
    let g = ticked true ∷ h in
    let s0 = c.args.self.now in
    let s2 = c.pass.new.self in
    let t = subst (λ (x : State). StandsFor base own false x g) (sym c.pass.ensures) (stands-retired base own (ticked_now s0) h (stands-ticked base own s0 h s)) in
    let led : c.is_none.result ≡ is_none (leads g d.live.now) = none-tested c.leads.result c.is_none.result c.is_none.ensures ∙ ap is_none c.leads.ensures ∙ none-led base own s2 g d.live.now t in
    elim c.if-is_none.branch [
      | then-is_none w ↦ rw (sym led ∙ w.if-is_none.true) (w.makes-is ∙ w.makes_now-makes.ensures ∙ makes-told base own s2 g d.live.now d.potential d.seen d.rekey t)
      | else-is_none w ↦ rw (sym led ∙ w.if-is_none.false) (w.makes-is ∙ w.if-is_none.false)
    ]
