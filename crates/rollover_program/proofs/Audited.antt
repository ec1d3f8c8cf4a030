-- How the program ends after a capture was judged with its keys.
use Rattle.std.proofs.Common.{◌≡◌, ℕ, List, Option, Result, Ok, Err, ap, inl, inr, refl}
use Rattle.std.specs.Prelude.{◌⊎◌}
use Rattle.capture_audit.specs.declared.end.AuditEnd.{AuditEnd}
use Rattle.capture_audit.specs.declared.end.AuditEnd.TheVariants as ends
use Rattle.capture_audit.specs.Before.{Unwrapped}
use Rattle.audit_report.specs.declared.blame.Breach.{Breach}
use Rattle.audit_report.specs.declared.blame.Breach.TheVariants as breaches
use Rattle.capture_audit.specs.Ends.{IsBreach, IsBroken, IsOfOutside, IsRefuted, end_for}
use Rattle.capture_audit.specs.Telling.{all_told}
use Rattle.capture_audit.specs.declared.asks.Asks.{Asks}
use Rattle.audit_report.specs.Tallies.{tally_of}
use Rattle.audit_report.specs.Verdicts.{doubt}
use Rattle.key_ring.specs.Rings.{Ring}
use Rattle.replay.specs.Sinks.{Sunk}
use Rattle.rollover_program.specs.declared.status.Status.TheVariants.{Usage, ReadFault, WriteFault, Memory}
use Rattle.rollover_program.specs.commands.Audit.{EndsAsAudit, EndsAsView, EndsJudged, status_of_audit}

-- nothing was done, for want of memory
pub not_audited : (asks : Asks) (text : List ℕ) (left held : Option (List ℕ)) (failed : Type 0)
    → EndsAsAudit asks text left failed held held Memory
not_audited asks text left held failed = (Err ends.Memory, inl refl, refl)

pub not_viewed : (asks : Asks) (text : List ℕ) (left : Option (List ℕ)) (failed : Type 0) (old : Sunk)
    → EndsAsView asks text left failed old old Memory
not_viewed asks text left failed old = (Err ends.Memory, tt, inl refl, (refl, refl))

-- ---- a capture was judged

pub audit_no_usage : (r : Result (Unit {0}) AuditEnd) → status_of_audit r ≡ Usage → ⊥
audit_no_usage (Ok done) e = cc e
audit_no_usage (Err (ends.KeyLine line why)) e = cc e
audit_no_usage (Err (ends.Refuted breach)) e = cc e
audit_no_usage (Err (ends.Doubted wrong undecided)) e = cc e
audit_no_usage (Err ends.NotJudged) e = cc e
audit_no_usage (Err (ends.Refused at why)) e = cc e
audit_no_usage (Err ends.InputLimit) e = cc e
audit_no_usage (Err ends.KeyLimit) e = cc e
audit_no_usage (Err ends.ReadFault) e = cc e
audit_no_usage (Err ends.WriteFault) e = cc e
audit_no_usage (Err ends.Memory) e = cc e

pub audit_read : (r : Result (Unit {0}) AuditEnd) → status_of_audit r ≡ ReadFault
    → r ≡ Err ends.ReadFault
audit_read (Ok done) e = absurd (cc e)
audit_read (Err (ends.KeyLine line why)) e = absurd (cc e)
audit_read (Err (ends.Refuted breach)) e = absurd (cc e)
audit_read (Err (ends.Doubted wrong undecided)) e = absurd (cc e)
audit_read (Err ends.NotJudged) e = absurd (cc e)
audit_read (Err (ends.Refused at why)) e = absurd (cc e)
audit_read (Err ends.InputLimit) e = absurd (cc e)
audit_read (Err ends.KeyLimit) e = absurd (cc e)
audit_read (Err ends.ReadFault) e = refl
audit_read (Err ends.WriteFault) e = absurd (cc e)
audit_read (Err ends.Memory) e = absurd (cc e)

pub audit_write : (r : Result (Unit {0}) AuditEnd) → status_of_audit r ≡ WriteFault
    → r ≡ Err ends.WriteFault
audit_write (Ok done) e = absurd (cc e)
audit_write (Err (ends.KeyLine line why)) e = absurd (cc e)
audit_write (Err (ends.Refuted breach)) e = absurd (cc e)
audit_write (Err (ends.Doubted wrong undecided)) e = absurd (cc e)
audit_write (Err ends.NotJudged) e = absurd (cc e)
audit_write (Err (ends.Refused at why)) e = absurd (cc e)
audit_write (Err ends.InputLimit) e = absurd (cc e)
audit_write (Err ends.KeyLimit) e = absurd (cc e)
audit_write (Err ends.ReadFault) e = absurd (cc e)
audit_write (Err ends.WriteFault) e = refl
audit_write (Err ends.Memory) e = absurd (cc e)

-- ---- a whole capture was judged without a fault

-- where the source did not fail
pub unfailed : (ring : Ring) (packets : List Unwrapped) (failed : Type 0) (breach : Breach) → (failed → ⊥)
    → IsBreach ring packets failed breach → IsBreach ring packets ⊥ breach
unfailed ring packets failed (breaches.Nonce i j) whole is = is
unfailed ring packets failed (breaches.Key i j) whole (least, inl none) = (least, inl none)
unfailed ring packets failed (breaches.Key i j) whole (least, inr was) = absurd (whole was)

module _ (asks : Asks) (failed : Type 0) (ring : Ring) (packets : List Unwrapped) where
  -- how an audit ends in which no pair breaks
  abbrev unbroken : Result (Unit {0}) AuditEnd
  unbroken = end_for (doubt asks.strict (tally_of (all_told ring packets)))

  -- what breaks was told
  abbrev pub IsTold : Result (Unit {0}) AuditEnd → Type 0
  IsTold r = (i j : ℕ) → IsBroken ring packets i j
      → IsRefuted ring packets failed r ⊎ IsOfOutside asks failed r

  -- and nothing else
  abbrev pub IsSound : Result (Unit {0}) AuditEnd → Type 0
  IsSound r = ((i j : ℕ) → IsBroken ring packets i j → ⊥) → (r ≡ unbroken) ⊎ IsOfOutside asks failed r

  -- without a fault, and with memory
  inside_only : (r : Result (Unit {0}) AuditEnd) → (failed → ⊥) → (r ≡ Err ends.ReadFault → ⊥)
      → (r ≡ Err ends.WriteFault → ⊥) → (r ≡ Err ends.Memory → ⊥) → IsOfOutside asks failed r → ⊥
  inside_only r whole reads writes room (inl is) = reads is
  inside_only r whole reads writes room (inr (inl is)) = writes is
  inside_only r whole reads writes room (inr (inr (inl is))) = room is
  inside_only r whole reads writes room (inr (inr (inr is))) = whole is.1

  judged : (r : Result (Unit {0}) AuditEnd) → (failed → ⊥) → (r ≡ Err ends.ReadFault → ⊥)
      → (r ≡ Err ends.WriteFault → ⊥) → (r ≡ Err ends.Memory → ⊥) → IsTold r → IsSound r
      → EndsJudged asks ring packets (status_of_audit r)
  judged r whole reads writes room told sound = (
    λ i j broken. elim (told i j broken) [
      | inl by ↦ (by.0, unfailed ring packets failed by.0 whole by.1, ap status_of_audit by.2)
      | inr outside ↦ absurd (inside_only r whole reads writes room outside)
    ],
    λ none. elim (sound none) [
      | inl is ↦ ap status_of_audit is
      | inr outside ↦ absurd (inside_only r whole reads writes room outside)
    ],
  )

  pub complete_audit : (r : Result (Unit {0}) AuditEnd) → (failed → ⊥) → (r ≡ Err ends.ReadFault → ⊥)
      → (r ≡ Err ends.WriteFault → ⊥) → IsTold r → IsSound r
      → EndsJudged asks ring packets (status_of_audit r) ⊎ (status_of_audit r ≡ Memory)
  complete_audit (Err ends.Memory) whole reads writes told sound = inr refl
  complete_audit (Ok done) whole reads writes told sound =
      inl (judged (Ok done) whole reads writes (λ e. cc e) told sound)
  complete_audit (Err (ends.KeyLine line why)) whole reads writes told sound =
      inl (judged (Err (ends.KeyLine line why)) whole reads writes (λ e. cc e) told sound)
  complete_audit (Err (ends.Refuted breach)) whole reads writes told sound =
      inl (judged (Err (ends.Refuted breach)) whole reads writes (λ e. cc e) told sound)
  complete_audit (Err (ends.Doubted wrong undecided)) whole reads writes told sound =
      inl (judged (Err (ends.Doubted wrong undecided)) whole reads writes (λ e. cc e) told sound)
  complete_audit (Err ends.NotJudged) whole reads writes told sound =
      inl (judged (Err ends.NotJudged) whole reads writes (λ e. cc e) told sound)
  complete_audit (Err (ends.Refused at why)) whole reads writes told sound =
      inl (judged (Err (ends.Refused at why)) whole reads writes (λ e. cc e) told sound)
  complete_audit (Err ends.InputLimit) whole reads writes told sound =
      inl (judged (Err ends.InputLimit) whole reads writes (λ e. cc e) told sound)
  complete_audit (Err ends.KeyLimit) whole reads writes told sound =
      inl (judged (Err ends.KeyLimit) whole reads writes (λ e. cc e) told sound)
  complete_audit (Err ends.ReadFault) whole reads writes told sound = absurd (reads refl)
  complete_audit (Err ends.WriteFault) whole reads writes told sound = absurd (writes refl)
