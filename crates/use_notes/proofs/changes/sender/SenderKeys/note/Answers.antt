use Rattle.std.proofs.Common.{◌≡◌, ◌∙◌, ◌∷◌, Some, None, sym, ap, subst, arith}
use Rattle.std.specs.Map.{lookup}
use Rattle.std.specs.BTreeMap.{is_at}
use Rattle.std.specs.Ordering.{nat_cmp}
use Rattle.use_notes.specs.changes.Standing.{KeptOfSender, Keeps}
use Rattle.use_notes.proofs.changing.Passing.{keeps-on, keeps-new}
use Rattle.use_notes.proofs.changing.Putting.{on_ok}
use Rattle.use_notes.proofs.changes.sender.SenderKeys.note.Goals as goal

pub returns-in-Some-clause-noted : goal.returns-in-Some-clause-noted
returns-in-Some-clause-noted c = λ fs keeps order.
    let e = c.args.frame in
    let old = c.args.self.now in
    let found : lookup (is_at (nat_cmp e.key)) old.turns ≡ Some c.in-Some.turn =
    sym (c.copied.ensures ∙ c.get.ensures.value ∙ ap (λ (k : KeptOfSender). lookup (is_at (nat_cmp e.key)) k.turns) c.self.view_is) ∙ c.in-Some.is in
    subst (λ (k : KeptOfSender). Keeps (e ∷ fs) k) (sym c.go_on.ensures)
    (keeps-on e fs old c.in-Some.turn keeps order (omega arith) found)

pub returns-in-None-clause-noted : goal.returns-in-None-clause-noted
returns-in-None-clause-noted c = λ fs keeps order.
    let e = c.args.frame in
    let old = c.args.self.now in
    let found : lookup (is_at (nat_cmp e.key)) old.turns ≡ None =
    sym (c.copied.ensures ∙ c.get.ensures.value ∙ ap (λ (k : KeptOfSender). lookup (is_at (nat_cmp e.key)) k.turns) c.self.view_is) ∙ c.in-None.is in
    on_ok c.begin.result (λ begun. keeps-new e fs old c.begin.new.self keeps order found begun) c.begin.ensures.begun
