use Rattle.std.proofs.Common.{◌∙◌, sym, subst}
use Rattle.lan_core.specs.inside.Repeats.{IsFound}
use Rattle.lan_core.proofs.CheckPlaced.{kept_first, none_of}
use Rattle.lan_core.proofs.DrawsLookedUp.{number_at}
use Rattle.lan_core.proofs.checks.Checks.add.Goals as goal

pub returns-in_ok-insert-clause-kept : goal.returns-in_ok-insert-clause-kept
returns-in_ok-insert-clause-kept c = λ check p found.
    let firsts = c.self.inside.firsts.entries in
    kept_first c.args.place c.in-Some.check firsts c.insert.new.self.entries c.self.inside.others.items
    (none_of (number_at firsts c.in-Some.check) (sym c.contains_key.ensures ∙ c.if-contains_key.false))
    (λ q. c.in_ok-insert.ensures.updates.0 q) check p (subst (λ checks. IsFound checks check p) (sym c.self.view_is) found)
