-- How the program ends after a transcript was judged.
use Rattle.std.proofs.Common.{◌≡◌, ◌∙◌, ◌<◌, ◌≤◌, ℕ, Bool, true, false, cond, List, [], ◌∷◌, length, take, inr, refl, sym, ap, subst}
use Rattle.lan_base.specs.declared.sink.Unwritten.{Unwritten}
use Rattle.lan_base.specs.declared.sink.Unwritten.TheVariants as whys
use Rattle.lan_base.specs.Faults.{Rose}
use Rattle.lan_base.specs.Told.{after}
use Rattle.text_lines.specs.Reading.{Sourced}
use Rattle.transcript_check.specs.declared.verdict.Verdict.{Verdict}
use Rattle.transcript_check.specs.declared.fault.CheckFault.{CheckFault}
use Rattle.text_lines.specs.declared.unfinished.Unfinished.{Unfinished}
use Rattle.text_lines.specs.declared.unfinished.Unfinished.TheVariants as ends
use Rattle.transcript_check.specs.Verdicts.{is_clean, text_of}
use Rattle.transcript_check.proofs.Public.{not-judged}
use Rattle.replay.specs.Sinks.{Sunk, Wrote, BrokeOff}
use Rattle.replay.proofs.Public.{wrote-one, broke-one}
use Rattle.rollover_program.specs.declared.status.Status.{Status}
use Rattle.rollover_program.specs.declared.status.Status.TheVariants.{Done, Usage, Refuted, ReadFault, WriteFault, Memory}
use Rattle.rollover_program.specs.commands.Check.{EndsAsCheck, Tells, status_of, told}
use Rattle.rollover_program.specs.inside.Answering.{status_of_unwritten}

-- nothing was done, for want of memory
pub not_checked : (text : List ℕ) (left : Sourced) (old : Sunk)
    → EndsAsCheck text left left old old Memory
not_checked text left old = inr (ends.Memory, not-judged text left, refl, refl)

-- ---- a verdict

-- a verdict that was told is so
pub told-all : (verdict : Verdict) (old new : Sunk) (status : Status) → status ≡ told verdict
    → Wrote (text_of verdict ∷ []) old new → Tells verdict old new status
told-all verdict old new status is wrote = go (is_clean verdict) refl
  where
    go : (b : Bool) → is_clean verdict ≡ b → Tells verdict old new status
    go true e =
        let done : status ≡ Done = is ∙ ap (λ b. cond b Done Refuted) e in
        rw done (sym done ∙ is, wrote)
    go false e =
        let refuted : status ≡ Refuted = is ∙ ap (λ b. cond b Done Refuted) e in
        rw refuted (sym refuted ∙ is, wrote)

-- no verdict is another status
pub other-status : (verdict : Verdict) (status : Status) → (Done ≡ status → ⊥) → (Refuted ≡ status → ⊥)
    → status ≡ told verdict → ⊥
other-status verdict status done refuted is = go (is_clean verdict) is
  where
    go : (b : Bool) → status ≡ cond b Done Refuted → ⊥
    go true e = done (sym e)
    go false e = refuted (sym e)

pub tells_usage : (verdict : Verdict) (old new : Sunk) (status : Status)
    → Tells verdict old new status → status ≡ Usage → ⊥
tells_usage verdict old new status tells e =
    let usage = subst (λ (s : Status). Tells verdict old new s) e tells in
    other-status verdict Usage (λ is. cc is) (λ is. cc is) usage.0

pub tells_read_fault : (verdict : Verdict) (old new : Sunk) (status : Status)
    → Tells verdict old new status → status ≡ ReadFault → ⊥
tells_read_fault verdict old new status tells e =
    let fault = subst (λ (s : Status). Tells verdict old new s) e tells in
    other-status verdict ReadFault (λ is. cc is) (λ is. cc is) fault.0

pub tells_write_fault : (verdict : Verdict) (old new : Sunk) (status : Status)
    → Tells verdict old new status → status ≡ WriteFault → Rose old.faults new.faults
tells_write_fault verdict old new status tells e =
    let fault = subst (λ (s : Status). Tells verdict old new s) e tells in fault.0

-- a part of the text of a verdict was written
pub part_told : (verdict : Verdict) (octets : List ℕ) (old new : Sunk) (why : Unwritten)
    → octets ≡ text_of verdict
    → ((m : ℕ) × (m < length octets) × (new.held ≡ after old.held (take m octets)))
    → old.faults ≤ new.faults → (why ≡ whys.Failed → Rose old.faults new.faults)
    → Tells verdict old new (status_of_unwritten why)
part_told verdict octets old new why is part counts failed = go why failed
  where
    broke : BrokeOff (text_of verdict ∷ []) old new
    broke = subst (λ (text : List ℕ). BrokeOff (text ∷ []) old new) is
        (broke-one octets part.0 old new part.1 part.2 counts)

    go : (why : Unwritten) → (why ≡ whys.Failed → Rose old.faults new.faults)
        → Tells verdict old new (status_of_unwritten why)
    go whys.Failed failed = (failed refl, broke)
    go whys.Memory failed = broke

-- all of it was
pub all_told : (verdict : Verdict) (octets : List ℕ) (old new : Sunk) (status : Status)
    → octets ≡ text_of verdict → new.held ≡ after old.held octets → old.faults ≤ new.faults
    → status ≡ told verdict → Tells verdict old new status
all_told verdict octets old new status is held counts by =
    told-all verdict old new status by
    (subst (λ (text : List ℕ). Wrote (text ∷ []) old new) is (wrote-one octets old new held counts))

-- ---- where nothing was judged, or drawn

pub never_usage : (why : Unfinished CheckFault) → status_of why ≡ Usage → ⊥
never_usage (ends.Refused line fault) e = cc e
never_usage ends.Memory e = cc e
never_usage ends.ReadFault e = cc e
never_usage ends.WriteFault e = cc e
never_usage ends.Limit e = cc e

pub read_faulted : (why : Unfinished CheckFault) → status_of why ≡ ReadFault → why ≡ ends.ReadFault
read_faulted (ends.Refused line fault) e = absurd (cc e)
read_faulted ends.Memory e = absurd (cc e)
read_faulted ends.ReadFault e = refl
read_faulted ends.WriteFault e = absurd (cc e)
read_faulted ends.Limit e = absurd (cc e)

pub write_faulted : (why : Unfinished CheckFault) → status_of why ≡ WriteFault → why ≡ ends.WriteFault
write_faulted (ends.Refused line fault) e = absurd (cc e)
write_faulted ends.Memory e = absurd (cc e)
write_faulted ends.ReadFault e = absurd (cc e)
write_faulted ends.WriteFault e = refl
write_faulted ends.Limit e = absurd (cc e)
