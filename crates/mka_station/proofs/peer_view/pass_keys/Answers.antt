use Rattle.std.proofs.Common.{◌≡◌, ◌∙◌, ◌∷◌, ◌++◌, List, is_some, ap, subst}
use Rattle.std.specs.Prelude.{IfOk, OnOk, Result, Ok, Err}
use Rattle.sak_exchange.specs.declared.change.Change.{Change}
use Rattle.sak_exchange.specs.Histories.{ticked}
use Rattle.mka_station.specs.Tick.{ended}
use Rattle.mka_station.proofs.peer_view.pass_keys.Goals as goal

pub returns-clause-changes : goal.returns-clause-changes
returns-clause-changes c = λ base own h s.
    let server = c.args.server in
    let t = c.tick.ensures.stands base own h s in
    let a = c.in_ok-ended.ensures.changes base own h t in
    let k = c.in_ok-ended.ensures.stands base own h t in
    let b = c.in_ok-led.ensures.changes base own (ticked (is_some server) ∷ h) k in
    subst (λ (xs : List Change). IfOk c.joined.result (λ v. v ≡ xs)) (ap (λ (xs : List Change). xs ++ c.in_ok-led.led) a ∙ ap (λ (xs : List Change). ended h server ++ xs) b) c.joined.ensures

always : {A E P : Type 0} (r : Result A E) → P → OnOk r P
always (Ok a) p = p
always (Err e) p = tt

pub returns-clause-stands : goal.returns-clause-stands
returns-clause-stands c = λ base own h s.
    let server = c.args.server in
    let k = c.in_ok-ended.ensures.stands base own h (c.tick.ensures.stands base own h s) in
    always c.joined.result (c.in_ok-led.ensures.stands base own (ticked (is_some server) ∷ h) k)
