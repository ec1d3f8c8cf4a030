use Rattle.std.proofs.Common.{rules, ◌∙◌, ap, cond, Some}
use Rattle.std.specs.Map.{lookup}
use Rattle.std.specs.BTreeMap.{is_at}
use Rattle.xpn_numbers.specs.Standing.{Kept, use_cmp}
use Rattle.xpn_numbers.proofs.Keeping.{noted_right}
use Rattle.xpn_numbers.proofs.numbers.XpnNumbers.note_right.Goals as goal

pub returns-clause-noted : goal.returns-clause-noted
returns-clause-noted c = λ history stands.
    noted_right history c.args.self.now _ c.args.key c.args.sci c.args.place c.places_after-places.result stands
    (search (rules, stands.uses c.args.key c.args.sci))
    (λ q. c.in_ok-insert.ensures.updates.0 q
    ∙ ap (λ (n : Kept). cond (is_at (use_cmp (c.args.key, c.args.sci)) q) (Some c.places_after-places.result) (lookup (is_at (use_cmp q)) n.uses)) c.self.view_is)
    (search rules) (search rules)
