use Rattle.std.proofs.Common.{sym, ◌∙◌}
use Rattle.rollover_program.proofs.Audited.{audit_no_usage, audit_read, audit_write, complete_audit}
use Rattle.rollover_program.proofs.commands.audit.audit.Goals as goal

pub returns-clause-carried : goal.returns-clause-carried
returns-clause-carried g c = record {
  ends = λ text told. (c.audit.result, c.audit.ensures.audited text told, c.status_of_audit.ensures);
  no_usage = λ e. audit_no_usage c.audit.result (sym c.status_of_audit.ensures ∙ e);
  read_cause = λ e. c.audit.ensures.read_fault.rose (audit_read c.audit.result (sym c.status_of_audit.ensures ∙ e));
  write_cause = λ e. c.audit.ensures.write_fault.rose (audit_write c.audit.result (sym c.status_of_audit.ensures ∙ e));
}

pub returns-clause-complete : goal.returns-clause-complete
returns-clause-complete g c = λ text told ring packets read reads writes. rw c.status_of_audit.ensures
    (complete_audit c.args.asks _ ring packets c.audit.result reads
    (λ e. reads (c.audit.ensures.read_fault.rose e)) (λ e. writes (c.audit.ensures.write_fault.rose e))
    (λ i j broken. c.audit.ensures.broken text ring packets i j told read broken)
    (λ none. c.audit.ensures.clean text ring packets told read none))
