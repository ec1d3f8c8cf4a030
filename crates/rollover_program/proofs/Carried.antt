-- How the program ends after a trace was performed or made.
use Rattle.std.proofs.Common.{◌≡◌, ℕ, ◌<◌, ◌≤◌, true, false, List, [], ◌∷◌, Bool, length, take, Option}
use Rattle.std.proofs.Common.{refl, sym, ap, subst, inl, inr, arith, append-nil, ◌∙◌}
use Rattle.std.specs.Prelude.{◌⊎◌, nat_le, Some, None, Result, Ok, Err}
use Rattle.std.proofs.lemmas.Bool.Decides.{nat_tests}
use Rattle.lan_base.specs.declared.sink.Unwritten.{Unwritten}
use Rattle.lan_base.specs.declared.sink.Unwritten.TheVariants as whys
use Rattle.lan_base.specs.Faults.{Rose}
use Rattle.lan_base.specs.Told.{before, after}
use Rattle.trace_maker.specs.Made.{made}
use Rattle.text_lines.specs.Texts.{whole_lines}
use Rattle.text_lines.specs.Reading.{Sourced, sourced}
use Rattle.text_lines.specs.declared.reading.End.{End}
use Rattle.text_lines.specs.declared.reading.End.TheVariants as ends
use Rattle.trace_acts.specs.declared.halt.Halt.{Halt}
use Rattle.trace_acts.specs.declared.halt.Halt.TheVariants as halts
use Rattle.lan_schedule.specs.Races.{Chance}
use Rattle.lan_schedule.specs.World.{World as LanWorld, beginning, is_racing}
use Rattle.lan_schedule.specs.Acts.{Course, Goes, course}
use Rattle.lan_schedule.specs.Lines.{performed_all}
use Rattle.lan_schedule.specs.Sound.{IsTidy}
use Rattle.lan_schedule.proofs.Public.{way-start}
use Rattle.replay.specs.Sinks.{Sunk, BrokeOff}
use Rattle.replay.specs.Runs.{most_input, Performing, Shows, within, EndsRun}
use Rattle.replay.specs.OneGroup.{one_group, shown_by, whole, IsSettled}
use Rattle.replay.proofs.Public.{runs-weaker, broke-one}
use Rattle.rollover_program.specs.declared.status.Status.{Status}
use Rattle.rollover_program.specs.declared.status.Status.TheVariants.{Done, Usage, CheckInput, Refuted, Transcript, CaptureInput, Unrecorded, Capture, KeyLine, Keys, CaptureRefuted, CaptureDoubted, CaptureNotJudged, Packets, Trace, ReadFault, WriteFault, Memory, Input, Limit, RepeatedDraw, Forged}
use Rattle.rollover_program.specs.Headline.{IsPromised}
use Rattle.rollover_program.specs.commands.Run.{Answers, EndsAsRun, EndsWithin, halt_in}
use Rattle.rollover_program.specs.commands.Run.{status_after, status_of_halt, status_of_replay, status_within}
use Rattle.rollover_program.specs.commands.Make.{EndsMade}
use Rattle.rollover_program.specs.commands.Try.{EndsTried}
use Rattle.rollover_program.specs.inside.Answering.{status_of_unwritten}

abbrev pub Answer : Type 0
Answer = Result (Unit {0}) (End Halt)

-- ---- the status of an answer

-- the answer of which this is the status; of want of memory there are two
abbrev answer_of : Status → Answer
answer_of Done = Ok tt
answer_of (Trace line kind) = Err (ends.Refused (halts.Trace line kind))
answer_of ReadFault = Err ends.ReadFault
answer_of WriteFault = Err (ends.Refused halts.WriteFault)
answer_of Input = Err ends.Limit
answer_of (Limit which) = Err (ends.Refused (halts.Limit which))
answer_of (RepeatedDraw first second) = Err (ends.Refused (halts.RepeatedDraw first second))
answer_of (Forged line) = Err (ends.Refused (halts.Forged line))
answer_of status = Err ends.Memory

answer_at : (r : Answer) → (status_of_replay r ≡ Memory → ⊥) → r ≡ answer_of (status_of_replay r)
answer_at (Ok tt) other = refl
answer_at (Err (ends.Refused (halts.Trace line kind))) other = refl
answer_at (Err (ends.Refused halts.Memory)) other = absurd (other refl)
answer_at (Err (ends.Refused halts.WriteFault)) other = refl
answer_at (Err (ends.Refused (halts.Limit which))) other = refl
answer_at (Err (ends.Refused (halts.RepeatedDraw first second))) other = refl
answer_at (Err (ends.Refused (halts.Forged line))) other = refl
answer_at (Err ends.Memory) other = refl
answer_at (Err ends.ReadFault) other = refl
answer_at (Err ends.Limit) other = refl

pub caused : (r : Answer) (status : Status) → (status ≡ Memory → ⊥) → status_of_replay r ≡ status
    → r ≡ answer_of status
caused r status other is =
    answer_at r (λ e. other (sym is ∙ e)) ∙ ap (λ (s : Status). answer_of s) is

pub never_usage : (r : Answer) → status_of_replay r ≡ Usage → ⊥
never_usage r is =
    let wanting = ap (λ (x : Answer). status_of_replay x) (caused r Usage (λ e. cc e) is) in
    cc (sym wanting ∙ is)

-- a run of which more is known ended as its answer says
pub ran_as : {Act World : Type 0} (p : Performing Act World) (IsSuch IsOther : World → Type 0)
    → ((w : World) → IsSuch w → IsOther w) → (shows : Shows World) (text : List ℕ)
    (left now : Sourced) (old new : Sunk) (r : Answer)
    → EndsRun p IsSuch shows text left now old new r
    → Answers (λ r. EndsRun p IsOther shows text left now old new r) (status_of_replay r)
ran_as p IsSuch IsOther weaker shows text left now old new r h =
    (r, runs-weaker p IsSuch IsOther weaker shows text left now old new r h, refl)

-- all is promised of each tidy world outside a race
abbrev pub Promise : Type 0
Promise = (w : LanWorld) → IsTidy w → is_racing w.kept.phase ≡ false → IsPromised w

pub ran : Promise → (summary : Bool) (text : List ℕ) (left now : Sourced) (old new : Sunk) (r : Answer)
    → EndsRun one_group IsSettled (shown_by summary) text left now old new r
    → EndsAsRun summary text left now old new (status_of_replay r)
ran promise summary text left now old new r h =
    ran_as one_group IsSettled IsPromised (λ w settled. promise w settled.tidy settled.apart)
    (shown_by summary) text left now old new r h

-- ---- nothing was done, for want of memory

before_none : (told : Option (List ℕ)) → told ≡ before [] told
before_none None = refl
before_none (Some rest) = refl

held_nothing : (held : Option (List ℕ)) → held ≡ after held []
held_nothing None = refl
held_nothing (Some octets) = ap (λ (o : List ℕ). Some o) (sym (append-nil octets))

-- no line was performed, and so nothing shown
pub none_done : {Act World : Type 0} (p : Performing Act World) (IsSuch : World → Type 0)
    (shows : Shows World) (w : World) (text : List ℕ) (left : Sourced) (old : Sunk)
    → p.Reaches (p.lines []) w → p.Passes (within p text) w → IsSuch w → shows.before w ≡ []
    → EndsRun p IsSuch shows text left left old old (Err ends.Memory)
none_done p IsSuch shows w text left old reached passed such none = record {
  taken = record {
    earlier = [];
    piece = [];
    moved = before_none left.left;
    within = omega arith;
    at_once = omega arith;
    world = w;
    performed = reached;
    more = [];
    held = rw none (held_nothing old.held);
  };
  ends = inl (w, passed, such, rw none (inl refl));
}

pub not_run : Promise → ((chances : List Chance) → IsTidy (beginning chances)) → (summary : Bool)
    (text : List ℕ) (left : Sourced) (old : Sunk)
    → EndsAsRun summary text left left old old Memory
not_run promise tidy summary text left old = (
  Err ends.Memory,
  none_done one_group IsPromised (shown_by summary) (beginning []) text left old ([], refl)
      ([], way-start (within one_group text) (beginning []))
      (promise (beginning []) (tidy []) refl) (none summary),
  refl,
)
  where
    none : (summary : Bool) → (shown_by summary).before (beginning []) ≡ []
    none false = refl
    none true = refl

pub not_tried : Promise → ((chances : List Chance) → IsTidy (beginning chances)) → (n : ℕ) (old : Sunk)
    → EndsTried n old old Memory
not_tried promise tidy n old =
    (Some (made n), not_run promise tidy true (made n) (sourced (Some (made n)) 0) old)

-- the text of a number was performed from memory
pub tried : (n : ℕ) (view : List ℕ) (left : Option (List ℕ)) (old new : Sunk) (status : Status)
    → view ≡ made n
    → ((text : List ℕ) → Some view ≡ Some text
    → EndsAsRun true text (sourced (Some view) 0) (sourced left 0) old new status)
    → EndsTried n old new status
tried n view left old new status is says = (
  left,
  subst (λ (v : List ℕ). EndsAsRun true (made n) (sourced (Some v) 0) (sourced left 0) old new status)
      is (says (made n) (ap (λ (v : List ℕ). Some v) is)),
)

-- a part of the text of a number was written
pub part_made : (n : ℕ) (octets : List ℕ) (old new : Sunk) (why : Unwritten) → octets ≡ made n
    → ((m : ℕ) × (m < length octets) × (new.held ≡ after old.held (take m octets)))
    → old.faults ≤ new.faults → (why ≡ whys.Failed → Rose old.faults new.faults)
    → EndsMade n old new (status_of_unwritten why)
part_made n octets old new why is part counts failed = go why failed
  where
    broke : BrokeOff (made n ∷ []) old new
    broke = subst (λ (text : List ℕ). BrokeOff (text ∷ []) old new) is
        (broke-one octets part.0 old new part.1 part.2 counts)

    go : (why : Unwritten) → (why ≡ whys.Failed → Rose old.faults new.faults)
        → EndsMade n old new (status_of_unwritten why)
    go whys.Failed failed = (failed refl, broke)
    go whys.Memory failed = broke

-- ---- without a fault

-- what performing a text leaves has these statuses
pub record IsStatus {Act World : Type 0} (p : Performing Act World) (text : List ℕ)
    (Is : Status → Type 0) : Type 0 where
  pub at_end : length text ≤ most_input → (w : World) → p.Reaches (p.whole text) w → Is Done
  pub past_limit : most_input < length text → (w : World)
      → p.Reaches (p.lines (whole_lines (take most_input text))) w → Is Input
  pub by_stop : (w : World) (halt : Halt) → p.Stops (within p text) w halt
      → Is (status_of_halt halt)

module _ {Act World : Type 0} (p : Performing Act World) (IsSuch : World → Type 0)
    (shows : Shows World) (text : List ℕ) (left now : Sourced) (old new : Sunk)
    (Is : Status → Type 0) (is : IsStatus p text Is) where
  abbrev IsOrWants : Status → Type 0
  IsOrWants status = Is status ⊎ (status ≡ Memory)

  by_answer : (r : Answer) → EndsRun p IsSuch shows text left now old new r
      → (Rose left.faults now.faults → ⊥) → (Rose old.faults new.faults → ⊥)
      → IsOrWants (status_of_replay r)
  by_answer (Ok done) h reads writes = let e = h.ends in inl (is.at_end e.0 e.2.0 e.2.1)
  by_answer (Err (ends.Refused (halts.Trace line kind))) h reads writes =
      let e = h.ends in inl (is.by_stop e.0 (halts.Trace line kind) e.1)
  by_answer (Err (ends.Refused halts.Memory)) h reads writes = inr refl
  by_answer (Err (ends.Refused halts.WriteFault)) h reads writes = absurd (writes h.ends.0)
  by_answer (Err (ends.Refused (halts.Limit which))) h reads writes =
      let e = h.ends in inl (is.by_stop e.0 (halts.Limit which) e.1)
  by_answer (Err (ends.Refused (halts.RepeatedDraw first second))) h reads writes =
      let e = h.ends in inl (is.by_stop e.0 (halts.RepeatedDraw first second) e.1)
  by_answer (Err (ends.Refused (halts.Forged line))) h reads writes =
      let e = h.ends in inl (is.by_stop e.0 (halts.Forged line) e.1)
  by_answer (Err ends.Memory) h reads writes = inr refl
  by_answer (Err ends.ReadFault) h reads writes = absurd (reads h.ends.0)
  by_answer (Err ends.Limit) h reads writes =
      let e = h.ends in inl (is.past_limit e.0 e.1.0 e.1.1)

  -- a run ended with such a status, or memory was wanting
  pub without_fault : (status : Status)
      → Answers (λ r. EndsRun p IsSuch shows text left now old new r) status
      → (Rose left.faults now.faults → ⊥) → (Rose old.faults new.faults → ⊥)
      → Is status ⊎ (status ≡ Memory)
  without_fault status h reads writes =
      subst IsOrWants (sym h.2) (by_answer h.0 h.1 reads writes)

at_end : (text : List ℕ) (chances : List Chance) (w : LanWorld) → length text ≤ most_input
    → course (whole text) chances ≡ Goes w → Done ≡ status_within text chances
at_end text chances w fits e =
    let test : nat_le (length text) most_input ≡ true = grind (arith, nat_tests, fits) in
    rw (test, e) refl

past_limit : (text : List ℕ) (chances : List Chance) (w : LanWorld) → most_input < length text
    → course (performed_all (whole_lines (take most_input text))) chances ≡ Goes w
    → Input ≡ status_within text chances
past_limit text chances w past e =
    let test : nat_le (length text) most_input ≡ false = grind (arith, nat_tests, past) in
    rw (test, e) refl

run_status : (text : List ℕ) → IsStatus one_group text (EndsWithin text)
run_status text = record {
  at_end = λ fits w r. (r.0, at_end text r.0 w fits r.1);
  past_limit = λ past w r. (r.0, past_limit text r.0 w past r.1);
  by_stop = λ w halt r. (
    r.0,
    sym (ap
        (λ (out : Course). status_after (nat_le (length text) most_input) (halt_in out)) r.1),
  );
}

-- the status is what performing the text leaves, or memory was wanting
abbrev pub IsComplete : List ℕ → Status → Type 0
IsComplete text status = EndsWithin text status ⊎ (status ≡ Memory)

pub complete : (summary : Bool) (text : List ℕ) (left now : Sourced) (old new : Sunk) (status : Status)
    → EndsAsRun summary text left now old new status → (Rose left.faults now.faults → ⊥)
    → (Rose old.faults new.faults → ⊥) → IsComplete text status
complete summary text left now old new status h reads writes =
    without_fault one_group IsPromised (shown_by summary) text left now old new (EndsWithin text)
    (run_status text) status h reads writes

-- a count that stays at nothing did not rise
steady : Rose 0 0 → ⊥
steady (inl less) = omega arith
steady (inr most) = omega arith

-- so a trace that is made never ends by a fault of its source
pub try_reads : (n : ℕ) (old new : Sunk) (status : Status) → EndsTried n old new status → status ≡ ReadFault → ⊥
try_reads n old new status h is =
    let run = h.1 in
    let at = caused run.0 ReadFault (λ e. cc e) (sym run.2 ∙ is) in
    let read = subst (λ (r : Answer). EndsRun one_group IsPromised (shown_by true) (made n) (sourced (Some (made n)) 0)
    (sourced h.0 0) old new r) at run.1 in
    steady read.ends.0

pub complete_try : (n : ℕ) (old new : Sunk) (status : Status) → EndsTried n old new status
    → (Rose old.faults new.faults → ⊥) → IsComplete (made n) status
complete_try n old new status ends writes =
    complete true (made n) _ _ old new status ends.1 steady writes

pub complete_make : (n : ℕ) (old new : Sunk) (status : Status) → EndsMade n old new status
    → (Rose old.faults new.faults → ⊥) → (status ≡ Done) ⊎ (status ≡ Memory)
complete_make n old new Done ends writes = inl refl
complete_make n old new Usage ends writes = absurd ends
complete_make n old new CheckInput ends writes = absurd ends
complete_make n old new Refuted ends writes = absurd ends
complete_make n old new (Transcript line why) ends writes = absurd ends
complete_make n old new CaptureInput ends writes = absurd ends
complete_make n old new (Unrecorded line why) ends writes = absurd ends
complete_make n old new (Capture at why) ends writes = absurd ends
complete_make n old new (KeyLine line why) ends writes = absurd ends
complete_make n old new Keys ends writes = absurd ends
complete_make n old new (CaptureRefuted breach) ends writes = absurd ends
complete_make n old new (CaptureDoubted wrong undecided) ends writes = absurd ends
complete_make n old new CaptureNotJudged ends writes = absurd ends
complete_make n old new (Packets at why) ends writes = absurd ends
complete_make n old new WriteFault ends writes = absurd (writes ends.0)
complete_make n old new Memory ends writes = inr refl
complete_make n old new (Trace line kind) ends writes = absurd ends
complete_make n old new ReadFault ends writes = absurd ends
complete_make n old new Input ends writes = absurd ends
complete_make n old new (Limit which) ends writes = absurd ends
complete_make n old new (RepeatedDraw first second) ends writes = absurd ends
complete_make n old new (Forged line) ends writes = absurd ends
