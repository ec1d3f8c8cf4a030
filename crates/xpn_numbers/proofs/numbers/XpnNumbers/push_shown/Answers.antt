use Rattle.std.proofs.Common.{rules, ◌≡◌, ◌∙◌, ◌++◌, ℕ, List, Option, ap, sym}
use Rattle.std.specs.Map.{lookup}
use Rattle.std.specs.BTreeMap.{is_at}
use Rattle.std.proofs.lemmas.List.{append-nil}
use Rattle.xpn_numbers.specs.Standing.{Kept, group_id, group_id_cmp}
use Rattle.xpn_numbers.specs.inside.Keys.{key_in}
use Rattle.xpn_numbers.proofs.Keeping.{shows_another, shows_it}
use Rattle.xpn_numbers.proofs.numbers.XpnNumbers.push_shown.Goals as goal

pub returns-in_ok-push : goal.returns-in_ok-push
returns-in_ok-push c =
    let found : c.copied.result ≡ key_in c.args.self.now.ids c.args.group c.in-Some.shown.id =
    c.copied.ensures ∙ c.get.ensures.value
    ∙ ap (λ (n : Kept). lookup (is_at (group_id_cmp (group_id c.args.group c.in-Some.shown.id))) n.ids) c.self.view_is in
    c.in_ok-push.ensures.items
    ∙ ap (λ (x : List ℕ). c.args.highs.now.items ++ x)
    (sym (shows_it (key_in c.args.self.now.ids) c.args.group c.args.key c.args.shown c.in-Some.shown c.copied.result c.in-Some.is found (sym c.is_it.ensures ∙ c.if-is_it.true)))

pub returns-else-is_it : goal.returns-else-is_it
returns-else-is_it c =
    let found : c.copied.result ≡ key_in c.args.self.now.ids c.args.group c.in-Some.shown.id =
    c.copied.ensures ∙ c.get.ensures.value
    ∙ ap (λ (n : Kept). lookup (is_at (group_id_cmp (group_id c.args.group c.in-Some.shown.id))) n.ids) c.self.view_is in
    sym (append-nil c.args.highs.now.items)
    ∙ ap (λ (x : List ℕ). c.args.highs.now.items ++ x)
    (sym (shows_another (key_in c.args.self.now.ids) c.args.group c.args.key c.args.shown c.in-Some.shown c.copied.result c.in-Some.is found (sym c.is_it.ensures ∙ c.if-is_it.false)))
