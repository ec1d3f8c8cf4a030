use Rattle.std.proofs.Common.{ap, sym, refl, inl, inr, ◌∙◌}
use Rattle.std.specs.Prelude.{Err}
use Rattle.rollover_program.specs.declared.status.Status.TheVariants.{ReadFault, WriteFault, Forged}
use Rattle.rollover_program.specs.declared.words.Order.TheVariants.{Roll}
use Rattle.rollover_program.specs.Outside.{outside}
use Rattle.rollover_program.proofs.Ordered.{by_no_usage}
use Rattle.rollover_program.proofs.Refused.{plain_orders, either, usage_only, neither, memory}
use Rattle.rollover_program.proofs.Orders.{completes, either_order, nothing_done, one_order}
use Rattle.rollover_program.proofs.top.rollover.Goals as goal

pub returns-in-Ok-clause-usage : goal.returns-in-Ok-clause-usage
returns-in-Ok-clause-usage g c = λ e. absurd (c.carry_out.ensures.carried.no_usage e)

pub returns-in-Ok-clause-refused : goal.returns-in-Ok-clause-refused
returns-in-Ok-clause-refused g c = λ usage. absurd (usage c.in-Ok.ensures.ok.0)

pub returns-in-Ok-clause-untouched : goal.returns-in-Ok-clause-untouched
returns-in-Ok-clause-untouched g c = λ usage. absurd (usage c.in-Ok.ensures.ok.0)

pub returns-in-Ok-clause-ordered : goal.returns-in-Ok-clause-ordered
returns-in-Ok-clause-ordered g c = λ taken. by_no_usage _ taken

pub returns-in-Ok-clause-named : goal.returns-in-Ok-clause-named
returns-in-Ok-clause-named g c = λ order numbered is.
    (plain_orders _ order numbered is, λ e. c.carry_out.ensures.carried.no_usage e)

pub returns-in-Ok-clause-carried : goal.returns-in-Ok-clause-carried
returns-in-Ok-clause-carried g c = λ order asked.
    rw (one_order _ order c.in-Ok.order asked c.in-Ok.ensures.ok) c.carry_out.ensures.carried.ends

pub returns-in-Ok-clause-turned : goal.returns-in-Ok-clause-turned
returns-in-Ok-clause-turned g c = λ order asked.
    rw (one_order _ order c.in-Ok.order asked c.in-Ok.ensures.ok) (inr c.carry_out.ensures.turned)

pub returns-in-Ok-clause-unread : goal.returns-in-Ok-clause-unread
returns-in-Ok-clause-unread g c = λ n asked.
    c.carry_out.ensures.unread n (either_order _ _ n c.in-Ok.ensures.ok asked)

pub returns-in-Ok-clause-unforged : goal.returns-in-Ok-clause-unforged
returns-in-Ok-clause-unforged g c = λ line asked.
    c.carry_out.ensures.unforged line (one_order _ _ Roll c.in-Ok.ensures.ok asked)

pub returns-in-Ok-clause-complete : goal.returns-in-Ok-clause-complete
returns-in-Ok-clause-complete g c = λ order asked.
    let out = c.carry_out.ensures in
    rw (one_order _ order c.in-Ok.order asked c.in-Ok.ensures.ok)
    (completes (outside g.S.Source g.K.Sink c.args.source.now c.carry_out.new.source c.args.sink.now c.carry_out.new.sink)
    c.carry_out.result c.in-Ok.order out.carried out.audited)

pub returns-in-Err-clause-usage : goal.returns-in-Err-clause-usage
returns-in-Err-clause-usage g c = λ e.
    c.in-Err.ensures.usage (ap (λ f. Err f) (usage_only c.in-Err.refusal
    (sym c.status_of_refusal.ensures ∙ e)))

pub returns-in-Err-clause-refused : goal.returns-in-Err-clause-refused
returns-in-Err-clause-refused g c = λ usage.
    either c.in-Err.refusal _ c.status_of_refusal.ensures

pub returns-in-Err-clause-untouched : goal.returns-in-Err-clause-untouched
returns-in-Err-clause-untouched g c = λ usage. (refl, refl)

pub returns-in-Err-clause-ordered : goal.returns-in-Err-clause-ordered
returns-in-Err-clause-ordered g c = λ taken. by_no_usage _ taken

pub returns-in-Err-clause-named : goal.returns-in-Err-clause-named
returns-in-Err-clause-named g c = λ order numbered is.
    let asked = plain_orders _ order numbered is in (
      asked,
      λ e. c.in-Err.ensures.usage
          (ap (λ f. Err f) (usage_only c.in-Err.refusal (sym c.status_of_refusal.ensures ∙ e)))
          asked.0,
    )

pub returns-in-Err-clause-carried : goal.returns-in-Err-clause-carried
returns-in-Err-clause-carried g c = λ order asked.
    rw (memory _ c.in-Err.refusal (λ is. c.in-Err.ensures.usage (ap (λ f. Err f) is)) _ order
    c.status_of_refusal.ensures asked)
    (nothing_done c.law_tidy_runs_are_promised.ensures c.law_lines_leave_a_tidy_world.ensures.start
    c.law_tidy_worlds_of_two_groups_are_promised.ensures
    c.law_groups_of_tidy_worlds_are_sound.ensures.start _ _ order)

pub returns-in-Err-clause-turned : goal.returns-in-Err-clause-turned
returns-in-Err-clause-turned g c = λ order asked.
    inl (
      refl,
      refl,
      memory _ c.in-Err.refusal (λ is. c.in-Err.ensures.usage (ap (λ f. Err f) is)) _ order
          c.status_of_refusal.ensures asked,
    )

pub returns-in-Err-clause-unread : goal.returns-in-Err-clause-unread
returns-in-Err-clause-unread g c = λ n asked. refl

pub returns-in-Err-clause-read_cause : goal.returns-in-Err-clause-read_cause
returns-in-Err-clause-read_cause g c = λ e.
    neither c.in-Err.refusal ReadFault _ (λ u. cc u) (λ m. cc m) (sym c.status_of_refusal.ensures ∙ e)

pub returns-in-Err-clause-write_cause : goal.returns-in-Err-clause-write_cause
returns-in-Err-clause-write_cause g c = λ e.
    neither c.in-Err.refusal WriteFault _ (λ u. cc u) (λ m. cc m) (sym c.status_of_refusal.ensures ∙ e)

pub returns-in-Err-clause-unforged : goal.returns-in-Err-clause-unforged
returns-in-Err-clause-unforged g c = λ line asked e.
    neither c.in-Err.refusal (Forged line) _ (λ u. cc u) (λ m. cc m) (sym c.status_of_refusal.ensures ∙ e)

pub returns-in-Err-clause-complete : goal.returns-in-Err-clause-complete
returns-in-Err-clause-complete g c = λ order asked text on write.
    inr (memory _ c.in-Err.refusal (λ is. c.in-Err.ensures.usage (ap (λ f. Err f) is)) _ order
    c.status_of_refusal.ensures asked)
