use Rattle.std.proofs.Common.{◌≤◌, ◌∙◌, ap, sym, subst, length, List, rules, nat_lt}
use Rattle.std.specs.List.{filter}
use Rattle.std.proofs.lemmas.Fn.{filter_same}
use Rattle.peer_lists.specs.declared.remembered.Remembered.{Remembered}
use Rattle.peer_lists.specs.Showing.{aged_peer}
use Rattle.peer_lists.proofs.TableRows.{filter-fewer}
use Rattle.peer_lists.proofs.places.age.Goals as goal

pub returns-clause-rows : goal.returns-clause-rows
returns-clause-rows c =
    let test = λ (p : Remembered). nat_lt 0 p.last.left in
    filter_same _ test _ (λ x b f' k. search rules) _ _ c.retain.ensures.filtered ∙ ap (filter test) c.age_each.ensures.rows

pub returns-clause-fewer : goal.returns-clause-fewer
returns-clause-fewer c =
    let test = λ (p : Remembered). nat_lt 0 p.last.left in
    let rows = filter_same _ test _ (λ x b f' k. search rules) _ _ c.retain.ensures.filtered ∙ ap (filter test) c.age_each.ensures.rows in
    subst (λ (ps : List Remembered). length ps ≤ length c.args.rows.now.items) (sym rows) (filter-fewer test aged_peer c.args.rows.now.items)
