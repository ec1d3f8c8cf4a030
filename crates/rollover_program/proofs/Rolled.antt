-- How the program ends after a trace of two groups was performed.
use Rattle.std.proofs.Common.{◌≡◌, ◌<◌, ◌≤◌, ◌⊎◌, ℕ, true, false, List, length, take, refl, sym, ap, arith}
use Rattle.std.specs.Prelude.{nat_le, Err}
use Rattle.std.proofs.lemmas.Bool.Decides.{nat_tests}
use Rattle.lan_base.specs.Faults.{Rose}
use Rattle.text_lines.specs.declared.reading.End.TheVariants as ends
use Rattle.text_lines.specs.Texts.{lines_of, whole_lines}
use Rattle.text_lines.specs.Reading.{Sourced}
use Rattle.twin_schedule.specs.World.{World, beginning}
use Rattle.twin_schedule.specs.Acts.{Course, Goes, perform}
use Rattle.twin_schedule.specs.Lines.{performed_all}
use Rattle.twin_schedule.specs.Sound.{IsTidy}
use Rattle.twin_schedule.specs.Ends.{reported}
use Rattle.replay.specs.Sinks.{Sunk}
use Rattle.replay.specs.Runs.{most_input, within, EndsRun}
use Rattle.replay.specs.twin.TwoGroups.{transcript, two_groups}
use Rattle.rollover_program.specs.declared.status.Status.{Status}
use Rattle.rollover_program.specs.declared.status.Status.TheVariants.{Done, Memory, Input}
use Rattle.rollover_program.specs.TwoGroups.{ArePromised}
use Rattle.rollover_program.specs.commands.Run.{status_after, status_of_replay}
use Rattle.rollover_program.specs.commands.Roll.{EndsAsRoll, EndsRollWithin, halt_in}
use Rattle.rollover_program.proofs.Carried.{Answer, IsStatus, none_done, ran_as, without_fault}

-- all is promised of each tidy world of two groups
abbrev pub TwinPromise : Type 0
TwinPromise = (w : World) → IsTidy w → ArePromised w

pub rolled : TwinPromise → (text : List ℕ) (left now : Sourced) (old new : Sunk) (r : Answer)
    → EndsRun two_groups IsTidy transcript text left now old new r
    → EndsAsRoll text left now old new (status_of_replay r)
rolled promise text left now old new r h =
    ran_as two_groups IsTidy ArePromised promise transcript text left now old new r h

-- nothing was done, for want of memory
pub not_rolled : TwinPromise → IsTidy beginning → (text : List ℕ) (left : Sourced) (old : Sunk)
    → EndsAsRoll text left left old old Memory
not_rolled promise tidy text left old = (
  Err ends.Memory,
  none_done two_groups ArePromised transcript beginning text left old refl
      (record { more = reported (perform (within two_groups text) beginning); parts = refl })
      (promise beginning tidy) refl,
  refl,
)

-- ---- without a fault

at_end : (text : List ℕ) (w : World) → length text ≤ most_input
    → perform (performed_all (lines_of text)) beginning ≡ Goes w → EndsRollWithin text Done
at_end text w fits e =
    let test : nat_le (length text) most_input ≡ true = grind (arith, nat_tests, fits) in
    rw (test, e) refl

past_limit : (text : List ℕ) (w : World) → most_input < length text
    → perform (performed_all (whole_lines (take most_input text))) beginning ≡ Goes w
    → EndsRollWithin text Input
past_limit text w past e =
    let test : nat_le (length text) most_input ≡ false = grind (arith, nat_tests, past) in
    rw (test, e) refl

roll_status : (text : List ℕ) → IsStatus two_groups text (EndsRollWithin text)
roll_status text = record {
  at_end = λ fits w e. at_end text w fits e;
  past_limit = λ past w e. past_limit text w past e;
  by_stop = λ w halt e. sym (ap
      (λ (out : Course). status_after (nat_le (length text) most_input) (halt_in out)) e);
}

pub complete_roll : (text : List ℕ) (left now : Sourced) (old new : Sunk) (status : Status)
    → EndsAsRoll text left now old new status → (Rose left.faults now.faults → ⊥)
    → (Rose old.faults new.faults → ⊥)
    → EndsRollWithin text status ⊎ (status ≡ Memory)
complete_roll text left now old new status h reads writes =
    without_fault two_groups ArePromised transcript text left now old new (EndsRollWithin text)
    (roll_status text) status h reads writes
