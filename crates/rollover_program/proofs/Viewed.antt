-- How the program ends after what was seen of a capture was drawn.
use Rattle.std.proofs.Common.{◌≡◌, ℕ, List, Result, Ok, Err, inl, inr, refl, sym, subst, ◌∙◌}
use Rattle.std.specs.Prelude.{◌⊎◌}
use Rattle.audit_facts.specs.declared.view.AuditView.{AuditView}
use Rattle.audit_report.specs.declared.blame.Blame.{Blame}
use Rattle.audit_report.specs.declared.blame.Blame.TheVariants as blames
use Rattle.audit_report.specs.declared.ending.Ending.{Ending}
use Rattle.audit_report.specs.declared.ending.Ending.TheVariants as endings
use Rattle.capture_audit.specs.declared.asks.Asks.{Asks}
use Rattle.capture_audit.specs.declared.end.AuditEnd.{AuditEnd}
use Rattle.capture_audit.specs.declared.end.AuditEnd.TheVariants as ends
use Rattle.capture_audit.specs.Before.{Unwrapped}
use Rattle.capture_audit.specs.Ends.{end_of}
use Rattle.capture_audit.specs.Views.{end_seen}
use Rattle.key_ring.specs.Rings.{Ring}
use Rattle.lan_base.specs.Faults.{Rose}
use Rattle.replay.specs.Sinks.{Sunk}
use Rattle.rollover_program.specs.declared.status.Status.{Status}
use Rattle.rollover_program.specs.declared.status.Status.TheVariants.{Done, Usage, ReadFault, WriteFault, Memory}
use Rattle.rollover_program.specs.commands.Audit.{EndsJudged, ShowsSeen, status_behind, status_of_audit}
use Rattle.rollover_program.specs.commands.Draw.{Shows}
use Rattle.rollover_program.proofs.Audited.{audit_no_usage, audit_read, audit_write}

-- ---- how the audit ends

pub end_fault : (b : Blame) (e : Ending) → end_of b e ≡ Err ends.ReadFault → e ≡ endings.Fault
end_fault blames.None endings.Whole is = absurd (cc is)
end_fault blames.None endings.Fault is = refl
end_fault blames.None endings.InputLimit is = absurd (cc is)
end_fault blames.None endings.KeyLimit is = absurd (cc is)
end_fault blames.None (endings.Octet at why) is = absurd (cc is)
end_fault (blames.Refuted breach) e is = absurd (cc is)
end_fault (blames.Doubted wrong undecided) e is = absurd (cc is)
end_fault blames.NotJudged e is = absurd (cc is)

pub end_unwritten : (b : Blame) (e : Ending) → end_of b e ≡ Err ends.WriteFault → ⊥
end_unwritten blames.None endings.Whole is = cc is
end_unwritten blames.None endings.Fault is = cc is
end_unwritten blames.None endings.InputLimit is = cc is
end_unwritten blames.None endings.KeyLimit is = cc is
end_unwritten blames.None (endings.Octet at why) is = cc is
end_unwritten (blames.Refuted breach) e is = cc is
end_unwritten (blames.Doubted wrong undecided) e is = cc is
end_unwritten blames.NotJudged e is = cc is

abbrev pub as_end : AuditEnd → Result (Unit {0}) AuditEnd
as_end e = Err e

pub end_is : (a b : AuditEnd) → as_end a ≡ as_end b → a ≡ b
end_is a b is = cc is

-- ---- a picture was shown

-- ---- what the status says

module _ (asks : Asks) (view : AuditView) (old new : Sunk) where
  abbrev seen_end : Result (Unit {0}) AuditEnd
  seen_end = end_seen asks.strict (Ok view)

  behind_usage : (picture : List ℕ) (shown : Status) → Shows picture old new shown → status_behind shown seen_end ≡ Usage → ⊥
  behind_usage picture Done shows e = audit_no_usage seen_end e
  behind_usage picture WriteFault shows e = cc e
  behind_usage picture Memory shows e = cc e
  behind_usage picture _ shows e = cc shows.0

  behind_read : (picture : List ℕ) (shown : Status) → Shows picture old new shown
      → status_behind shown seen_end ≡ ReadFault → seen_end ≡ Err ends.ReadFault
  behind_read picture Done shows e = audit_read seen_end e
  behind_read picture WriteFault shows e = absurd (cc e)
  behind_read picture Memory shows e = absurd (cc e)
  behind_read picture _ shows e = absurd (cc shows.0)

  behind_write : (picture : List ℕ) (shown : Status) → Shows picture old new shown
      → status_behind shown seen_end ≡ WriteFault
      → Rose old.faults new.faults ⊎ (seen_end ≡ Err ends.WriteFault)
  behind_write picture Done shows e = inr (audit_write seen_end e)
  behind_write picture WriteFault shows e = inl shows.0
  behind_write picture Memory shows e = absurd (cc e)
  behind_write picture _ shows e = absurd (cc shows.0)

  pub view_usage : (status : Status) → ShowsSeen asks (Ok view) old new status → status ≡ Usage → ⊥
  view_usage status (inl it) e = behind_usage it.0 it.1 it.2 (sym it.3 ∙ e)
  view_usage status (inr it) e = cc (sym it.0 ∙ e)

  pub view_read : (status : Status) → ShowsSeen asks (Ok view) old new status → status ≡ ReadFault
      → seen_end ≡ Err ends.ReadFault
  view_read status (inl it) e = behind_read it.0 it.1 it.2 (sym it.3 ∙ e)
  view_read status (inr it) e = absurd (cc (sym it.0 ∙ e))

  pub view_write : (status : Status) → ShowsSeen asks (Ok view) old new status → status ≡ WriteFault
      → Rose old.faults new.faults ⊎ (seen_end ≡ Err ends.WriteFault)
  view_write status (inl it) e = behind_write it.0 it.1 it.2 (sym it.3 ∙ e)
  view_write status (inr it) e = absurd (cc (sym it.0 ∙ e))

  module _ (ring : Ring) (packets : List Unwrapped) where
    abbrev IsComplete : Status → Type 0
    IsComplete status = EndsJudged asks ring packets status ⊎ (status ≡ Memory)

    behind_complete : (picture : List ℕ) (shown : Status) → Shows picture old new shown → (Rose old.faults new.faults → ⊥)
        → IsComplete (status_of_audit seen_end) → IsComplete (status_behind shown seen_end)
    behind_complete picture Done shows writes whole = whole
    behind_complete picture WriteFault shows writes whole = absurd (writes shows.0)
    behind_complete picture Memory shows writes whole = inr refl
    behind_complete picture _ shows writes whole = absurd (cc shows.0)

    pub view_complete : (status : Status) → ShowsSeen asks (Ok view) old new status → (Rose old.faults new.faults → ⊥)
        → IsComplete (status_of_audit seen_end) → IsComplete status
    view_complete status (inl it) writes whole =
        subst (λ (s : Status). IsComplete s) (sym it.3) (behind_complete it.0 it.1 it.2 writes whole)
    view_complete status (inr it) writes whole = inr it.0
