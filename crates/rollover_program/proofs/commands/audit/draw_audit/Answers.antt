use Rattle.std.proofs.Common.{Ok, Err, inl, inr, ap, sym, refl, ◌∙◌}
use Rattle.audit_report.specs.Verdicts.{blame}
use Rattle.capture_audit.specs.declared.end.AuditEnd.{AuditEnd}
use Rattle.capture_audit.specs.declared.end.AuditEnd.TheVariants as ends
use Rattle.capture_audit.specs.Views.{end_seen}
use Rattle.rollover_program.proofs.Audited.{audit_no_usage, audit_read, audit_write, complete_audit}
use Rattle.rollover_program.proofs.Viewed.{end_fault, end_is, end_unwritten, view_complete, view_read, view_usage, view_write}
use Rattle.rollover_program.proofs.commands.audit.draw_audit.Goals as goal

pub returns-in-Ok-clause-carried : goal.returns-in-Ok-clause-carried
returns-in-Ok-clause-carried g c =
    let asks = c.args.asks in
    let view = c.in-Ok.view in
    let blamed = blame asks.strict view.tally view.verdict in
    let status = c.show_view.result in record {
      ends = λ text told. (
        Ok view,
        c.in-Ok.ensures.views text told,
        c.in-Ok.ensures.audited asks text told,
        c.show_view.ensures,
      );
      no_usage = λ e. view_usage asks view _ _ status c.show_view.ensures e;
      read_cause = λ e. c.in-Ok.ensures.fault
          (end_fault blamed view.ending (view_read asks view _ _ status c.show_view.ensures e));
      write_cause = λ e. elim (view_write asks view _ _ status c.show_view.ensures e) [
        | inl rose ↦ rose
        | inr end ↦ absurd (end_unwritten blamed view.ending end)
      ];
    }

pub returns-in-Ok-clause-complete : goal.returns-in-Ok-clause-complete
returns-in-Ok-clause-complete g c = λ text told ring packets read reads writes.
    let view = c.in-Ok.view in
    let strict = c.args.asks.strict in
    view_complete c.args.asks view _ _ ring packets c.show_view.result c.show_view.ensures writes
    (complete_audit c.args.asks _ ring packets (end_seen strict (Ok view)) reads
    (λ e. reads (c.in-Ok.ensures.fault (end_fault (blame strict view.tally view.verdict) view.ending e)))
    (end_unwritten (blame strict view.tally view.verdict) view.ending)
    (λ i j broken. c.in-Ok.ensures.broken c.args.asks text ring packets i j told read broken)
    (λ none. c.in-Ok.ensures.clean c.args.asks text ring packets told read none))

pub returns-in-Err-clause-carried : goal.returns-in-Err-clause-carried
returns-in-Err-clause-carried g c = record {
  ends = λ text told. (
    Err c.in-Err.end,
    c.in-Err.ensures.views text told,
    c.in-Err.ensures.audited c.args.asks text told,
    (c.status_of_audit.ensures, refl),
  );
  no_usage = λ e. audit_no_usage (Err c.in-Err.end) (sym c.status_of_audit.ensures ∙ e);
  read_cause = λ e.
      c.in-Err.ensures.read_fault.rose (ap (λ (x : AuditEnd). Err x) (end_is c.in-Err.end ends.ReadFault
      (audit_read (Err c.in-Err.end) (sym c.status_of_audit.ensures ∙ e))));
  write_cause = λ e.
      absurd (c.in-Err.ensures.unwritten (ap (λ (x : AuditEnd). Err x) (end_is c.in-Err.end ends.WriteFault
      (audit_write (Err c.in-Err.end) (sym c.status_of_audit.ensures ∙ e)))));
}

pub returns-in-Err-clause-complete : goal.returns-in-Err-clause-complete
returns-in-Err-clause-complete g c = λ text told ring packets read reads writes. rw c.status_of_audit.ensures
    (complete_audit c.args.asks _ ring packets (Err c.in-Err.end) reads
    (λ e. reads (c.in-Err.ensures.read_fault.rose (ap (λ (x : AuditEnd). Err x) (end_is c.in-Err.end ends.ReadFault e))))
    (λ e. c.in-Err.ensures.unwritten (ap (λ (x : AuditEnd). Err x) (end_is c.in-Err.end ends.WriteFault e)))
    (λ i j broken. c.in-Err.ensures.broken c.args.asks text ring packets i j told read broken)
    (λ none. c.in-Err.ensures.clean c.args.asks text ring packets told read none))
