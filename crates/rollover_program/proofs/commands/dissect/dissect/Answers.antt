use Rattle.std.proofs.Common.{sym, ◌∙◌}
use Rattle.rollover_program.proofs.Captured.{telling_no_usage, telling_read, telling_write}
use Rattle.rollover_program.proofs.commands.dissect.dissect.Goals as goal

pub returns : goal.returns
returns g c = record {
  ends = λ file told. (c.dissect.result, c.dissect.ensures.told file told, c.status_of_telling.ensures);
  no_usage = λ e. telling_no_usage c.dissect.result (sym c.status_of_telling.ensures ∙ e);
  read_cause = λ e.
      c.dissect.ensures.read_fault (telling_read c.dissect.result (sym c.status_of_telling.ensures ∙ e));
  write_cause = λ e.
      c.dissect.ensures.write_fault (telling_write c.dissect.result (sym c.status_of_telling.ensures ∙ e));
}
