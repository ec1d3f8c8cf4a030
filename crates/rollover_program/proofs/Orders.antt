-- What holds of each order: a row of `nothing_done`, and one of `completes`.
use Rattle.std.proofs.Common.{◌≡◌, ◌∙◌, ℕ, Bool, true, false, List, Some, inl, inr, refl, subst, sym}
use Rattle.std.specs.Prelude.{◌⊎◌}
use Rattle.clap.specs.Words.{Text}
use Rattle.lan_base.specs.Faults.{Rose}
use Rattle.text_lines.specs.Reading.{Sourced}
use Rattle.trace_maker.specs.Made.{made}
use Rattle.lan_schedule.specs.Races.{Chance}
use Rattle.lan_schedule.specs.World.{beginning}
use Rattle.lan_schedule.specs.Sound.{IsTidy}
use Rattle.twin_schedule.specs.World.{beginning as twin_beginning}
use Rattle.twin_schedule.specs.Sound.{IsTidy as IsTidyTwin}
use Rattle.capture_audit.specs.declared.asks.Asks.{Asks}
use Rattle.replay.specs.Sinks.{Sunk}
use Rattle.replay.proofs.Public.{broke-none}
use Rattle.rollover_program.specs.declared.status.Status.{Status}
use Rattle.rollover_program.specs.declared.status.Status.TheVariants.{Usage, WriteFault, Memory}
use Rattle.rollover_program.specs.declared.words.Order.{Order}
use Rattle.rollover_program.specs.declared.words.Order.TheVariants.{Run, Make, Try, Check, Capture, Dissect, Roll, Draw, Audit}
use Rattle.rollover_program.specs.Words.{Orders}
use Rattle.rollover_program.specs.Outside.{Outside}
use Rattle.rollover_program.specs.Carried.{CarriesOut, Completes, IsCarriedOut, IsDecided}
use Rattle.rollover_program.specs.commands.Run.{EndsWithin}
use Rattle.rollover_program.specs.commands.Make.{EndsMade}
use Rattle.rollover_program.specs.commands.Try.{EndsTried}
use Rattle.rollover_program.specs.commands.Audit.{IsCompleteAudit, IsJudgedWhole}
use Rattle.rollover_program.proofs.Carried.{Promise, complete, complete_make, complete_try, not_run, not_tried, try_reads}
use Rattle.rollover_program.proofs.Rolled.{TwinPromise, complete_roll, not_rolled}
use Rattle.rollover_program.proofs.Judged.{not_checked}
use Rattle.rollover_program.proofs.Captured.{not_captured, not_dissected}
use Rattle.rollover_program.proofs.Drawn.{not_drawn}
use Rattle.rollover_program.proofs.Audited.{not_audited, not_viewed}
use Rattle.rollover_program.proofs.Decided.{EndsDecided, IsHaltedOutside, decided}
use Rattle.rollover_program.proofs.Decided as ends

-- words have one order
pub one_order : (words : List Text) (a b : Order) → Orders words a → Orders words b → a ≡ b
one_order words a b x y =
    let same : Some a ≡ Some b = sym x.1 ∙ y.1 in
    cc

pub either_order : (words : List Text) (a : Order) (n : ℕ) → Orders words a → Orders words (Make n)
    ⊎ Orders words (Try n) → (a ≡ Make n) ⊎ (a ≡ Try n)
either_order words a n x (inl y) = inl (one_order words a (Make n) x y)
either_order words a n x (inr y) = inr (one_order words a (Try n) x y)

-- nothing was done, for want of memory
pub nothing_done : Promise → ((chances : List Chance) → IsTidy (beginning chances)) → TwinPromise
    → IsTidyTwin twin_beginning → (left : Sourced) (old : Sunk) (order : Order)
    → CarriesOut order (record { left = left; now = left; old = old; new = old }) Memory
nothing_done promise tidy both calm left old (Run summary) =
    λ text told. not_run promise tidy summary text left old
nothing_done promise tidy both calm left old (Make n) = broke-none (made n) old
nothing_done promise tidy both calm left old (Try n) = not_tried promise tidy n old
nothing_done promise tidy both calm left old Check = λ text told. not_checked text left old
nothing_done promise tidy both calm left old Capture = λ text told. not_captured text left old
nothing_done promise tidy both calm left old Dissect = λ file told. not_dissected file left.left old.held
nothing_done promise tidy both calm left old Roll = λ text told. not_rolled both calm text left old
nothing_done promise tidy both calm left old Draw = λ text told. not_drawn text left old
nothing_done promise tidy both calm left old (Audit asks false) =
    λ text told. not_audited asks text left.left old.held (Rose left.faults left.faults)
nothing_done promise tidy both calm left old (Audit asks true) =
    λ text told. not_viewed asks text left.left (Rose left.faults left.faults) old

-- ---- a trace was made

module _ (n : ℕ) (o : Outside) (status : Status) where
  pub make_carried : EndsMade n o.old o.new status → IsCarriedOut (Make n) o status
  make_carried h = record {
    ends = h;
    no_usage = λ e. subst (λ (s : Status). EndsMade n o.old o.new s) e h;
    read_cause = λ e. absurd (subst (λ (s : Status). EndsMade n o.old o.new s) e h);
    write_cause = λ e. let fault = subst (λ (s : Status). EndsMade n o.old o.new s) e h in fault.0;
  }

  pub try_carried : EndsTried n o.old o.new status → (status ≡ Usage → ⊥)
      → (status ≡ WriteFault → Rose o.old.faults o.new.faults) → IsCarriedOut (Try n) o status
  try_carried h no_usage writes = record {
    ends = h;
    no_usage = no_usage;
    read_cause = λ e. absurd (try_reads n o.old o.new status h e);
    write_cause = writes;
  }

-- ---- where nothing failed outside

module _ (o : Outside) (status : Status) where
  undisturbed : (order : Order) → IsCarriedOut order o status → IsHaltedOutside status
      → (Rose o.left.faults o.now.faults → ⊥) → (Rose o.old.faults o.new.faults → ⊥) → EndsDecided status
  undisturbed order is outside read write =
      decided status outside (λ e. read (is.read_cause e)) (λ e. write (is.write_cause e))

  -- a capture that can be read to its end is judged whole, too
  judged_whole : (asks : Asks) (text : List ℕ) → o.left.left ≡ Some text → IsCompleteAudit asks o status
      → (Rose o.left.faults o.now.faults → ⊥) → (Rose o.old.faults o.new.faults → ⊥) → EndsDecided status
      → (IsDecided status × IsJudgedWhole asks text status) ⊎ (status ≡ Memory)
  judged_whole asks text told audit read write (inr memory) = inr memory
  judged_whole asks text told audit read write (inl is) =
      inl (
        is,
        λ ring packets whole. elim (audit text told ring packets whole read write) [
          | inl judged ↦ judged
          | inr memory ↦ absurd (subst IsDecided memory is)
        ],
      )

  pub completes : (order : Order) → IsCarriedOut order o status
      → ((asks : Asks) (draws : Bool) → order ≡ Audit asks draws → IsCompleteAudit asks o status)
      → Completes order o status
  completes (Run summary) is audited text on write =
      complete summary text o.left o.now o.old o.new status (is.ends text on.0) on.1 write
  completes (Make n) is audited text on write = complete_make n o.old o.new status is.ends write
  completes (Try n) is audited text on write =
      subst (λ (t : List ℕ). EndsWithin t status ⊎ (status ≡ Memory)) (sym on)
      (complete_try n o.old o.new status is.ends write)
  completes Check is audited text on write =
      undisturbed Check is (ends.checked o.left o.now o.old o.new status text (is.ends text on.0)) on.1 write
  completes Capture is audited text on write =
      undisturbed Capture is (ends.captured o.left o.now o.old o.new status text (is.ends text on.0)) on.1 write
  completes Dissect is audited text on write =
      undisturbed Dissect is (ends.dissected o.left o.now o.old o.new status text (is.ends text on.0)) on.1 write
  completes Roll is audited text on write =
      complete_roll text o.left o.now o.old o.new status (is.ends text on.0) on.1 write
  completes Draw is audited text on write =
      undisturbed Draw is (ends.drawn o.left o.now o.old o.new status text (is.ends text on.0)) on.1 write
  completes (Audit asks false) is audited text on write =
      judged_whole asks text on.0 (audited asks false refl) on.1 write
      (undisturbed (Audit asks false) is (ends.audited o.left o.now o.old o.new status asks text
      (Rose o.left.faults o.now.faults) (is.ends text on.0)) on.1 write)
  completes (Audit asks true) is audited text on write =
      judged_whole asks text on.0 (audited asks true refl) on.1 write
      (undisturbed (Audit asks true) is (ends.viewed o.left o.now o.old o.new status asks text
      (Rose o.left.faults o.now.faults) (is.ends text on.0)) on.1 write)
