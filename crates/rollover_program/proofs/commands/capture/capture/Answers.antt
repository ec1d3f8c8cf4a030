use Rattle.std.proofs.Common.{sym, ◌∙◌}
use Rattle.rollover_program.proofs.Captured.{capture_no_usage, capture_read, capture_write}
use Rattle.rollover_program.proofs.commands.capture.capture.Goals as goal

pub returns-clause-carried : goal.returns-clause-carried
returns-clause-carried g c = record {
  ends = λ text told. (c.capture.result, c.capture.ensures.captured text told, c.status_of_capture.ensures);
  no_usage = λ e. capture_no_usage c.capture.result (sym c.status_of_capture.ensures ∙ e);
  read_cause = λ e.
      c.capture.ensures.read_fault (capture_read c.capture.result (sym c.status_of_capture.ensures ∙ e));
  write_cause = λ e.
      c.capture.ensures.write_fault (capture_write c.capture.result (sym c.status_of_capture.ensures ∙ e));
}

pub returns-clause-turned : goal.returns-clause-turned
returns-clause-turned g c = (c.capture.result, c.capture.ensures.turned, c.status_of_capture.ensures)
