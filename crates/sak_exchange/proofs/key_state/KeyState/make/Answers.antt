use Rattle.std.proofs.Common.{◌≡◌, ◌∙◌, ◌&&◌, List, Some, ap, subst}
use Rattle.std.specs.Result.{IfOk}
use Rattle.std.proofs.lemmas.Result.{on_ok_weaker}
use Rattle.lan_base.specs.declared.address.Mi.{Mi}
use Rattle.sak_exchange.specs.declared.change.Change.{Change}
use Rattle.sak_exchange.specs.declared.held_key.Key.{Key}
use Rattle.sak_exchange.specs.Making.{is_key_due, is_rested}
use Rattle.sak_exchange.specs.inside.States.{install_changes_now, made_key_now, IsInstalled}
use Rattle.sak_exchange.proofs.Makes.{changes-made, stands-made}
use Rattle.sak_exchange.proofs.key_state.KeyState.make.Goals as goal

pub returns-clause-changes : goal.returns-clause-changes
returns-clause-changes c = λ base own h s.
    let s0 = c.args.self.now in
    let d = c.args.due.now in
    let told = ap (install_changes_now s0) c.made_key-key.ensures ∙ changes-made base own s0 h d.live.now d.conf c.args.sak s in
    subst (λ (xs : List Change). IfOk c.install.result (λ v. v ≡ xs)) told c.install.ensures.changes

pub returns-clause-stands : goal.returns-clause-stands
returns-clause-stands c = λ base own h s.
    let s0 = c.args.self.now in
    let d = c.args.due.now in
    on_ok_weaker c.install.result
    (λ i. let by_key = subst (λ (k : Key). IsInstalled s0 k (Some c.in_ok-roster.roster.value.items) c.install.new.self) c.made_key-key.ensures i in
    let is = subst (λ (ms : List Mi). IsInstalled s0 (made_key_now s0 d.conf c.args.sak) (Some ms) c.install.new.self) c.in_ok-roster.ensures by_key in
    stands-made base own s0 c.install.new.self h d.live.now d.conf c.args.sak (is_key_due h d.live.now d.seen d.rekey && is_rested h d.potential) s (c.requires.due base own h s) is)
    c.install.ensures.installed
