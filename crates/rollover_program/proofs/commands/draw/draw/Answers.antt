use Rattle.std.proofs.Common.{inl, inr, refl, sym, ap, ◌∙◌}
use Rattle.std.specs.Prelude.{Err}
use Rattle.rollover_program.proofs.Drawn.{as-octets, as-refused, shows_usage, shows_read_fault, shows_write_fault}
use Rattle.rollover_program.proofs.Judged.{never_usage, read_faulted, write_faulted}
use Rattle.rollover_program.proofs.commands.draw.draw.Goals as goal

pub returns-in-Ok : goal.returns-in-Ok
returns-in-Ok g c = record {
  ends = λ text told.
      inl (c.as_slice.result.now, as-octets text _ _ _ _ (c.in-Ok.ensures.drawn text told), c.show.ensures);
  no_usage = λ e. shows_usage c.as_slice.result.now _ _ _ c.show.ensures e;
  read_cause = λ e. absurd (shows_read_fault c.as_slice.result.now _ _ _ c.show.ensures e);
  write_cause = λ e. shows_write_fault c.as_slice.result.now _ _ _ c.show.ensures e;
}

pub returns-in-Err : goal.returns-in-Err
returns-in-Err g c = record {
  ends = λ text told.
      inr (c.in-Err.why, as-refused text _ _ _ (c.in-Err.ensures.drawn text told), c.status_of.ensures, refl);
  no_usage = λ e. never_usage c.in-Err.why (sym c.status_of.ensures ∙ e);
  read_cause = λ e.
      c.in-Err.ensures.read_fault.rose (ap (λ why. Err why) (read_faulted c.in-Err.why (sym c.status_of.ensures ∙ e)));
  write_cause = λ e.
      absurd (c.in-Err.ensures.read_fault.unwritten (ap (λ why. Err why) (write_faulted c.in-Err.why (sym c.status_of.ensures ∙ e))));
}
