use Rattle.std.proofs.Common.{◌≡◌, ◌∙◌, false, List, ap, sym, subst}
use Rattle.std.specs.Result.{IfOk}
use Rattle.std.proofs.lemmas.Result.{on_ok_weaker}
use Rattle.sak_exchange.specs.declared.change.Change.{Change}
use Rattle.sak_exchange.specs.Outcomes.{leading}
use Rattle.sak_exchange.specs.Standing.{State, StandsFor}
use Rattle.sak_exchange.specs.inside.States.{beginning_changes, beginning_state}
use Rattle.sak_exchange.proofs.Begins.{no-beginning, changes-led, stands-led}
use Rattle.sak_exchange.proofs.key_state.KeyState.lead.Goals as goal

pub returns-clause-changes : goal.returns-clause-changes
returns-clause-changes c = λ base own h s.
    let told = ap beginning_changes c.leads.ensures ∙ changes-led base own c.args.self.now h c.args.reports.now s in
    subst (λ (xs : List Change). IfOk c.begin.result (λ v. v ≡ xs)) told c.begin.ensures.changes

pub returns-clause-stands : goal.returns-clause-stands
returns-clause-stands c = λ base own h s.
    on_ok_weaker c.begin.result (λ is.
    let same : c.begin.new.self ≡ beginning_state c.args.self.now c.leads.result = is in
    subst (λ (t : State). StandsFor base own false t (leading h c.args.reports.now).past) (sym (same ∙ ap (beginning_state c.args.self.now) c.leads.ensures)) (stands-led base own c.args.self.now h c.args.reports.now s)) c.begin.ensures.state

pub returns-clause-prompt : goal.returns-clause-prompt
returns-clause-prompt c = λ base own h s none.
    c.begin.ensures.prompt (no-beginning c.leads.result (ap beginning_changes c.leads.ensures ∙ changes-led base own c.args.self.now h c.args.reports.now s ∙ none))
