use Rattle.std.proofs.Common.{sym, ◌∙◌, ◌≡◌, true, false}
use Rattle.rollover_program.specs.declared.words.Order.TheVariants.{Audit}
use Rattle.rollover_program.proofs.Orders.{make_carried, try_carried}
use Rattle.rollover_program.proofs.top.carry_out.Goals as goal

pub returns-in-Make-clause-carried : goal.returns-in-Make-clause-carried
returns-in-Make-clause-carried g c = rw c.in-Make.is (make_carried _ _ _ c.make.ensures)

pub returns-in-Try-clause-carried : goal.returns-in-Try-clause-carried
returns-in-Try-clause-carried g c =
    let tried = c.try_made.ensures in
    rw c.in-Try.is (try_carried _ _ _ tried.ends tried.no_usage tried.write_cause)

pub returns-in-Audit-default-true-clause-carried : goal.returns-in-Audit-default-true-clause-carried
returns-in-Audit-default-true-clause-carried g c =
    let asked = c.in-Audit-default-true in
    let draws : asked.draws ≡ true = sym asked.draws-is ∙ asked.draws-test in
    rw (asked.is, draws, sym asked.asks-is) c.draw_audit.ensures.carried

pub returns-in-Audit-default-false-clause-carried : goal.returns-in-Audit-default-false-clause-carried
returns-in-Audit-default-false-clause-carried g c =
    let asked = c.in-Audit-default-false in
    let draws : asked.draws ≡ false = sym asked.draws-is ∙ asked.draws-test in
    rw (asked.is, draws, sym asked.asks-is) c.audit.ensures.carried

pub returns-in-Audit-default-true-clause-audited : goal.returns-in-Audit-default-true-clause-audited
returns-in-Audit-default-true-clause-audited g c = λ asks draws is.
    let asked = c.in-Audit-default-true in
    let both : Audit asks draws ≡ Audit asked.asks asked.draws = sym is ∙ asked.is in
    let same : asks ≡ asked.asks = cc in
    rw (same, sym asked.asks-is) c.draw_audit.ensures.complete

pub returns-in-Audit-default-false-clause-audited : goal.returns-in-Audit-default-false-clause-audited
returns-in-Audit-default-false-clause-audited g c = λ asks draws is.
    let asked = c.in-Audit-default-false in
    let both : Audit asks draws ≡ Audit asked.asks asked.draws = sym is ∙ asked.is in
    let same : asks ≡ asked.asks = cc in
    rw (same, sym asked.asks-is) c.audit.ensures.complete

-- of orders that write at their end alone nothing is said
pub returns-in-Make-clause-turned : goal.returns-in-Make-clause-turned
returns-in-Make-clause-turned g c = rw c.in-Make.is tt

pub returns-in-Try-clause-turned : goal.returns-in-Try-clause-turned
returns-in-Try-clause-turned g c = rw c.in-Try.is tt

pub returns-in-Audit-default-true-clause-turned : goal.returns-in-Audit-default-true-clause-turned
returns-in-Audit-default-true-clause-turned g c = rw c.in-Audit-default-true.is tt

pub returns-in-Audit-default-false-clause-turned : goal.returns-in-Audit-default-false-clause-turned
returns-in-Audit-default-false-clause-turned g c = rw c.in-Audit-default-false.is tt
