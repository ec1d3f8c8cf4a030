use Rattle.std.proofs.Common.{subst}
use Rattle.known_keys.specs.declared.said.Fresh.{Fresh}
use Rattle.known_keys.specs.Maps.{Sets}
use Rattle.known_keys.specs.inside.Sets.{IsPut}
use Rattle.known_keys.proofs.said.Said.put.Goals as goal

pub returns : goal.returns
returns c =
    let d = c.self.inside in
    let new : Sets = record { statements = c.insert-2.new.self.keys; namings = c.insert.new.self.keys } in
    let fresh : Fresh = record { statement = c.in_ok-is_new.is_new; naming = c.in_ok-is_new_naming.is_new_naming } in
    subst (λ (m : Sets). IsPut c.args.statement m new fresh) c.self.view_is
    (record {
      statement_in = λ q. c.in_ok-is_new.ensures.updates.0 q;
      naming_in = λ q. c.in_ok-is_new_naming.ensures.updates.0 q;
      new_statement = c.in_ok-is_new.ensures.added;
      new_naming = c.in_ok-is_new_naming.ensures.added;
    })
