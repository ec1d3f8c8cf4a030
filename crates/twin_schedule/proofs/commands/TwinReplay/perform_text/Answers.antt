use Rattle.std.proofs.Common.{refl, ap, ◌∙◌, arith}
use Rattle.std.specs.Prelude.{Err, Ok}
use Rattle.twin_schedule.proofs.Doing.{memory-does}
use Rattle.twin_schedule.proofs.Replaying.{begun-does, fault-does, line-does, skipped-does}
use Rattle.twin_schedule.proofs.commands.TwinReplay.perform_text.Goals as goal

pub returns-in-Ok-None : goal.returns-in-Ok-None
returns-in-Ok-None g c =
    skipped-does c.args.text.now c.saturating_add-number.result _ _
    (λ w stands. let at = c.line.ensures w stands in let counts = c.saturating_add-number.ensures in
    omega (arith, at, counts))
    (c.in-Ok-None.ensures.read ∙ ap (λ o. Ok o) c.in-Ok-None.field-0-is)
    (begun-does c.saturating_add-number.result _ _ c.begin_line.ensures refl)

pub returns-in-Ok-Some : goal.returns-in-Ok-Some
returns-in-Ok-Some g c =
    line-does c.args.text.now c.saturating_add-number.result c.in-Ok-Some.line _ _ c.perform_line.result
    (λ w stands. let at = c.line.ensures w stands in let counts = c.saturating_add-number.ensures in
    omega (arith, at, counts))
    (c.in-Ok-Some.ensures.read ∙ ap (λ o. Ok o) c.in-Ok-Some.field-0-is) c.perform_line.ensures

pub returns-in-Err-Refused : goal.returns-in-Err-Refused
returns-in-Err-Refused g c =
    rw c.kind_of_fault.ensures (fault-does c.args.text.now c.saturating_add-number.result c.in-Err-Refused.fault _
    (λ w stands. let at = c.line.ensures w stands in let counts = c.saturating_add-number.ensures in
    omega (arith, at, counts))
    ((c.in-Err-Refused.ensures.refused c.in-Err-Refused.fault).0
    (ap (λ e. Err e) c.in-Err-Refused.field-0-is)))

pub returns-in-Err-Memory : goal.returns-in-Err-Memory
returns-in-Err-Memory g c = memory-does _ _ _ refl
