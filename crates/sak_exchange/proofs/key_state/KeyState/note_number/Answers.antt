use Rattle.std.proofs.Common.{◌≡◌, ◌∙◌, ℕ, List, Option, Some, cond, max, unwrap_or, ap}
use Rattle.std.specs.BTreeMap.{is_at}
use Rattle.lan_base.specs.declared.address.Mi.{Mi}
use Rattle.lan_base.specs.Identifiers.{order}
use Rattle.sak_exchange.specs.Standing.{number_in}
use Rattle.sak_exchange.specs.inside.States.{number_after}
use Rattle.sak_exchange.proofs.key_state.KeyState.note_number.Goals as goal

pub returns-clause-numbers : goal.returns-clause-numbers
returns-clause-numbers c = λ q.
    let i = c.args.id.now in
    let es = c.args.self.now.numbers in
    let fs = c.in_ok-numbers.numbers.entries in
    let kept : c.unwrap_or-kept.result ≡ unwrap_or (number_in es i.server) 0 = c.unwrap_or-kept.ensures ∙ ap (λ (o : Option ℕ). unwrap_or o 0) c.number_of.ensures in
    let value : c.max.result ≡ max i.number (unwrap_or (number_in es i.server) 0) = c.max.ensures ∙ ap (max i.number) kept in
    let found : number_in c.insert.new.self.entries q ≡ cond (is_at (order i.server) q) (Some c.max.result) (number_in fs q) = c.in_ok-insert.ensures.updates.0 q in
    let wrote : number_in c.insert.new.self.entries q ≡ number_after es i q = found ∙ ap (λ (n : ℕ). cond (is_at (order i.server) q) (Some n) (number_in fs q)) value
    ∙ ap (λ (gs : List (Mi × ℕ)). cond (is_at (order i.server) q) (Some (max i.number (unwrap_or (number_in es i.server) 0))) (number_in gs q)) c.in_ok-numbers.ensures in
    rw c.in_ok-new.ensures.ok wrote
