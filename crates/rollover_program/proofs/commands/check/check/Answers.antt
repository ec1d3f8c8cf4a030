use Rattle.std.proofs.Common.{inl, inr, refl, sym, ap, ◌∙◌}
use Rattle.std.specs.Prelude.{Err}
use Rattle.rollover_program.proofs.Judged.{tells_usage, tells_read_fault, tells_write_fault}
use Rattle.rollover_program.proofs.Judged.{never_usage, read_faulted, write_faulted}
use Rattle.rollover_program.proofs.commands.check.check.Goals as goal

pub returns-in-Ok : goal.returns-in-Ok
returns-in-Ok g c = record {
  ends = λ text told. inl (c.in-Ok.verdict, c.in-Ok.ensures.judged text told, c.tell.ensures);
  no_usage = λ e. tells_usage c.in-Ok.verdict _ _ _ c.tell.ensures e;
  read_cause = λ e. absurd (tells_read_fault c.in-Ok.verdict _ _ _ c.tell.ensures e);
  write_cause = λ e. tells_write_fault c.in-Ok.verdict _ _ _ c.tell.ensures e;
}

pub returns-in-Err : goal.returns-in-Err
returns-in-Err g c = record {
  ends = λ text told. inr (c.in-Err.why, c.in-Err.ensures.judged text told, c.status_of.ensures, refl);
  no_usage = λ e. never_usage c.in-Err.why (sym c.status_of.ensures ∙ e);
  read_cause = λ e.
      c.in-Err.ensures.read_fault.rose (ap (λ why. Err why) (read_faulted c.in-Err.why (sym c.status_of.ensures ∙ e)));
  write_cause = λ e.
      absurd (c.in-Err.ensures.read_fault.unwritten (ap (λ why. Err why) (write_faulted c.in-Err.why (sym c.status_of.ensures ∙ e))));
}
