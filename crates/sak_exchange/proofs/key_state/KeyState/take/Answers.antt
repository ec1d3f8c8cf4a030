use Rattle.std.proofs.Common.{◌≡◌, ◌∙◌, ◌∷◌, [], List, None, false, ap, sym, subst}
use Rattle.std.specs.Result.{IfOk}
use Rattle.std.proofs.lemmas.Result.{on_ok_weaker}
use Rattle.lan_base.specs.declared.key_id.KeyId.{KeyId}
use Rattle.sak_exchange.specs.declared.change.Change.{Change}
use Rattle.sak_exchange.specs.declared.change.Change.TheVariants.{Untaken}
use Rattle.sak_exchange.specs.Unwrapping.{given_sak}
use Rattle.sak_exchange.specs.Outcomes.{judging}
use Rattle.sak_exchange.specs.Standing.{StandsFor}
use Rattle.sak_exchange.specs.inside.States.{IsInstalled}
use Rattle.sak_exchange.proofs.Cases.{on_ok_always}
use Rattle.sak_exchange.proofs.Installs.{changes-installed, stands-installed, takes, refuses}
use Rattle.sak_exchange.proofs.key_state.KeyState.take.Goals as goal

pub returns-in-Ok-clause-changes : goal.returns-in-Ok-clause-changes
returns-in-Ok-clause-changes c = λ base own h s.
    let s0 = c.args.self.now in
    let o = c.args.offer.now in
    let sak = given_sak c.args.kek.now o.given.key in
    let t = takes base own s0 h o sak c.in-Ok.key s (sym c.judge.ensures ∙ c.in-Ok.is) in
    let told = changes-installed base own s0 h None c.in-Ok.key s ∙ ap (λ r. (judging h o r).changes) (sym t.is) in
    subst (λ (xs : List Change). IfOk c.install.result (λ v. v ≡ xs)) told c.install.ensures.changes

pub returns-in-Ok-clause-stands : goal.returns-in-Ok-clause-stands
returns-in-Ok-clause-stands c = λ base own h s.
    let s0 = c.args.self.now in
    let o = c.args.offer.now in
    let sak = given_sak c.args.kek.now o.given.key in
    let t = takes base own s0 h o sak c.in-Ok.key s (sym c.judge.ensures ∙ c.in-Ok.is) in
    on_ok_weaker c.install.result
    (λ i. let is : IsInstalled s0 c.in-Ok.key None c.install.new.self = i in
    let stands = stands-installed base own s0 c.install.new.self h None c.in-Ok.key is t.kept t.numbered s in
    subst (λ r. StandsFor base own false c.install.new.self (judging h o r).past) (sym t.is) stands)
    c.install.ensures.installed

pub returns-in-Err-clause-changes : goal.returns-in-Err-clause-changes
returns-in-Err-clause-changes c = λ base own h s.
    let o = c.args.offer.now in
    let sak = given_sak c.args.kek.now o.given.key in
    let t = refuses base own c.args.self.now h o sak c.in-Err.why s (sym c.judge.ensures ∙ c.in-Err.is) in
    let told = ap (λ (i : KeyId). Untaken i c.in-Err.why ∷ []) c.id.ensures ∙ ap (λ r. (judging h o r).changes) (sym t) in
    subst (λ (xs : List Change). IfOk c.of.result (λ v. v ≡ xs)) told c.of.ensures

pub returns-in-Err-clause-stands : goal.returns-in-Err-clause-stands
returns-in-Err-clause-stands c = λ base own h s.
    let o = c.args.offer.now in
    let sak = given_sak c.args.kek.now o.given.key in
    let t = refuses base own c.args.self.now h o sak c.in-Err.why s (sym c.judge.ensures ∙ c.in-Err.is) in
    on_ok_always c.of.result (subst (λ r. StandsFor base own false c.args.self.now (judging h o r).past) (sym t) s)
