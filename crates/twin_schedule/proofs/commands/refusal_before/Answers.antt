use Rattle.std.proofs.Common.{Some, sym, ap, ◌∙◌}
use Rattle.std.specs.Prelude.{not}
use Rattle.trace_acts.specs.declared.halt.Kind.TheVariants as kinds
use Rattle.trace_acts.specs.Kinds.{first_of, where_}
use Rattle.twin_schedule.proofs.Opening.{adopt-before, leave-before, none-allows, none-joins, order-first}
use Rattle.twin_schedule.proofs.Opening.{plain-before}
use Rattle.twin_schedule.proofs.Refusing.{if-none}
use Rattle.twin_schedule.proofs.commands.refusal_before.Goals as goal

pub returns-in-Plain-clause-first : goal.returns-in-Plain-clause-first
returns-in-Plain-clause-first c = λ n.
    rw c.in-Plain.is (c.refusal.ensures
    ∙ sym (plain-before c.in-Plain.line n c.args.chosen.now c.args.second.now))

pub returns-in-Plain-clause-before : goal.returns-in-Plain-clause-before
returns-in-Plain-clause-before c = rw c.in-Plain.is (none-allows _ _ c.refusal.ensures)

pub returns-in-Group2-clause-first : goal.returns-in-Group2-clause-first
returns-in-Group2-clause-first c = λ n.
    rw c.in-Group2.is (order-first _ _ (c.order_where.ensures
    ∙ ap (λ b. where_ (not b) kinds.Order) c.may_be_second.ensures))

pub returns-in-Adopt-clause-first : goal.returns-in-Adopt-clause-first
returns-in-Adopt-clause-first c = λ n.
    rw c.in-Adopt.is (c.unknown_where.ensures
    ∙ ap (λ b. first_of b (Some kinds.NameUnknown)) c.is_some.ensures
    ∙ sym (adopt-before _ n c.args.chosen.now c.args.second.now))

pub returns-in-Leave-clause-first : goal.returns-in-Leave-clause-first
returns-in-Leave-clause-first c = λ n.
    rw c.in-Leave.is (c.unknown_where-in-Leave.ensures
    ∙ sym (leave-before c.in-Leave.group _ n c.args.chosen.now c.args.second.now c.is_group.result
    c.is_group.ensures))

pub returns-in-Plain-clause-second : goal.returns-in-Plain-clause-second
returns-in-Plain-clause-second c = rw c.in-Plain.is (if-none _ _ tt)

pub returns-in-Group2-clause-second : goal.returns-in-Group2-clause-second
returns-in-Group2-clause-second c =
    rw c.in-Group2.is (none-joins c.may_be_second.result _ _ c.order_where.ensures
    c.may_be_second.ensures)

pub returns-in-Adopt-clause-second : goal.returns-in-Adopt-clause-second
returns-in-Adopt-clause-second c = tt

pub returns-in-Leave-clause-second : goal.returns-in-Leave-clause-second
returns-in-Leave-clause-second c = tt
