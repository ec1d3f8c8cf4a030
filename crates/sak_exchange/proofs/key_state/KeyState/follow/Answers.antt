use Rattle.std.proofs.Common.{◌≡◌, ◌∙◌, false, List, ap, sym, subst}
use Rattle.std.specs.Result.{IfOk}
use Rattle.std.proofs.lemmas.Result.{on_ok_weaker}
use Rattle.sak_exchange.specs.declared.change.Change.{Change}
use Rattle.sak_exchange.specs.Outcomes.{following}
use Rattle.sak_exchange.specs.Standing.{State, StandsFor}
use Rattle.sak_exchange.specs.inside.States.{beginning_changes, beginning_state}
use Rattle.sak_exchange.proofs.Begins.{no-beginning, changes-followed, stands-followed}
use Rattle.sak_exchange.proofs.key_state.KeyState.follow.Goals as goal

pub returns-clause-changes : goal.returns-clause-changes
returns-clause-changes c = λ base own h s.
    let told = ap beginning_changes c.follows.ensures ∙ changes-followed base own c.args.self.now h c.args.uses.now s in
    subst (λ (xs : List Change). IfOk c.begin.result (λ v. v ≡ xs)) told c.begin.ensures.changes

pub returns-clause-stands : goal.returns-clause-stands
returns-clause-stands c = λ base own h s.
    on_ok_weaker c.begin.result (λ is.
    let same : c.begin.new.self ≡ beginning_state c.args.self.now c.follows.result = is in
    subst (λ (t : State). StandsFor base own false t (following h c.args.uses.now).past) (sym (same ∙ ap (beginning_state c.args.self.now) c.follows.ensures)) (stands-followed base own c.args.self.now h c.args.uses.now s)) c.begin.ensures.state

pub returns-clause-prompt : goal.returns-clause-prompt
returns-clause-prompt c = λ base own h s none.
    c.begin.ensures.prompt (no-beginning c.follows.result (ap beginning_changes c.follows.ensures ∙ changes-followed base own c.args.self.now h c.args.uses.now s ∙ none))
