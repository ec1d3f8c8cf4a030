use Rattle.std.proofs.Common.{◌∙◌, ℕ, List, sym, ap}
use Rattle.std.specs.Prelude.{nat_le, position}
use Rattle.known_keys.proofs.Places.{none-reached, one-reached, stands-there}
use Rattle.known_keys.proofs.falling.put_number.Goals as goal

pub returns-in_default-clause-put : goal.returns-in_default-clause-put
returns-in_default-clause-put c =
    c.in_ok-push.ensures.items
    ∙ none-reached c.args.number c.args.list.now.items
    (ap (λ (xs : List ℕ). position (λ m. nat_le m c.args.number) xs) (sym c.deref.ensures.value) ∙ sym c.in_default.ensures)

pub returns-in_ok-insert-clause-put : goal.returns-in_ok-insert-clause-put
returns-in_ok-insert-clause-put c =
    c.in_ok-insert.ensures.items
    ∙ one-reached c.args.number c.args.list.now.items c.in-Some.at c.index.result.now
    (ap (λ (xs : List ℕ). position (λ m. nat_le m c.args.number) xs) (sym c.deref.ensures.value) ∙ sym c.in-Some.ensures)
    (λ same. c.if-index-number.true (c.index.ensures ∙ same))

pub returns-else-index-number-clause-put : goal.returns-else-index-number-clause-put
returns-else-index-number-clause-put c =
    stands-there c.args.number c.args.list.now.items c.in-Some.at c.index.result.now
    (ap (λ (xs : List ℕ). position (λ m. nat_le m c.args.number) xs) (sym c.deref.ensures.value) ∙ sym c.in-Some.ensures)
    (sym c.index.ensures ∙ c.if-index-number.false)
