use Rattle.std.proofs.Common.{rules, ◌∙◌, ap, cond, Some}
use Rattle.std.specs.Map.{lookup}
use Rattle.std.specs.BTreeMap.{is_at}
use Rattle.xpn_numbers.specs.Standing.{Kept, group_id, group_id_cmp}
use Rattle.xpn_numbers.proofs.Keeping.{given_first}
use Rattle.xpn_numbers.proofs.numbers.XpnNumbers.note_given.Goals as goal

pub returns-in_ok-insert-clause-noted : goal.returns-in_ok-insert-clause-noted
returns-in_ok-insert-clause-noted c = λ history stands.
    given_first history c.args.self.now _ c.args.group c.args.id c.args.key stands
    (search rules)
    (λ q. c.in_ok-insert.ensures.updates.0 q
    ∙ ap (λ (n : Kept). cond (is_at (group_id_cmp (group_id c.args.group c.args.id)) q) (Some c.args.key) (lookup (is_at (group_id_cmp q)) n.ids)) c.self.view_is)
    (search rules) (search rules)
