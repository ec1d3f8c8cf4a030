-- A run of which more is known ends as one of which less is.
use Rattle.std.proofs.Common.{ℕ, List, take, inl, inr}
use Rattle.std.specs.Prelude.{Result, Ok, Err}
use Rattle.text_lines.specs.declared.reading.End.{End}
use Rattle.text_lines.specs.declared.reading.End.TheVariants as ends
use Rattle.text_lines.specs.Texts.{whole_lines}
use Rattle.text_lines.specs.Reading.{Sourced}
use Rattle.trace_acts.specs.declared.halt.Halt.{Halt}
use Rattle.trace_acts.specs.declared.halt.Halt.TheVariants as halts
use Rattle.replay.specs.Sinks.{Sunk, Wrote, BrokeOff, WroteSome}
use Rattle.replay.specs.Runs.{most_input, Performing, Shows, within, WasPerformed, WasHalted}
use Rattle.replay.specs.Runs.{WasBroken, HaltsBy, EndsBy, EndsRun}

module _ {Act World : Type 0} (p : Performing Act World) (IsSuch IsOther : World → Type 0)
    (weaker : (w : World) → IsSuch w → IsOther w) where
  performed : (Did : List (List ℕ) → Type 0) (texts : World → List (List ℕ)) (act : Act)
      → WasPerformed p IsSuch Did texts act → WasPerformed p IsOther Did texts act
  performed Did texts act h = (h.0, h.1, weaker h.0 h.2, h.3)

  halted : (Did : List (List ℕ) → Type 0) (texts : World → List (List ℕ)) (act : Act) (halt : Halt)
      → WasHalted p IsSuch Did texts act halt → WasHalted p IsOther Did texts act halt
  halted Did texts act halt h = (h.0, h.1, weaker h.0 h.2, h.3)

  broken : (Did : List (List ℕ) → Type 0) (shows : Shows World) (text : List ℕ) (now : Sourced)
      → WasBroken p IsSuch Did shows text now → WasBroken p IsOther Did shows text now
  broken Did shows text now (inl h) = inl (h.0, h.1, weaker h.0 h.2, h.3)
  broken Did shows text now (inr h) = inr (h.0, h.1, performed Did shows.at_end (p.whole text) h.2)

  by-halt : (shows : Shows World) (text : List ℕ) (now : Sourced) (old new : Sunk) (halt : Halt)
      → HaltsBy p IsSuch shows text now old new halt → HaltsBy p IsOther shows text now old new halt
  by-halt shows text now old new halts.WriteFault h =
      (h.0, broken (λ t. BrokeOff t old new) shows text now h.1)
  by-halt shows text now old new halts.Memory h = broken (λ t. WroteSome t old new) shows text now h
  by-halt shows text now old new (halts.Trace line kind) h =
      halted (λ t. Wrote t old new) shows.before (within p text) (halts.Trace line kind) h
  by-halt shows text now old new (halts.Limit which) h =
      halted (λ t. Wrote t old new) shows.before (within p text) (halts.Limit which) h
  by-halt shows text now old new (halts.RepeatedDraw first second) h =
      halted (λ t. Wrote t old new) shows.before (within p text) (halts.RepeatedDraw first second) h
  by-halt shows text now old new (halts.Forged line) h =
      halted (λ t. Wrote t old new) shows.before (within p text) (halts.Forged line) h

  by-answer : (shows : Shows World) (text : List ℕ) (left now : Sourced) (old new : Sunk)
      (r : Result (Unit {0}) (End Halt)) → EndsBy p IsSuch shows text left now old new r
      → EndsBy p IsOther shows text left now old new r
  by-answer shows text left now old new (Ok done) h =
      (h.0, h.1, performed (λ t. Wrote t old new) shows.at_end (p.whole text) h.2)
  by-answer shows text left now old new (Err (ends.Refused halt)) h =
      by-halt shows text now old new halt h
  by-answer shows text left now old new (Err ends.Memory) h =
      by-halt shows text now old new halts.Memory h
  by-answer shows text left now old new (Err ends.Limit) h = (
    h.0,
    performed (λ t. Wrote t old new) shows.before
        (p.lines (whole_lines (take most_input text))) h.1,
  )
  by-answer shows text left now old new (Err ends.ReadFault) h = (
    h.0,
    (
      h.1.0,
      h.1.1,
      h.1.2,
      performed (λ t. Wrote t old new) shows.before (p.lines (whole_lines h.1.0)) h.1.3,
    ),
  )

  pub runs-weaker : (shows : Shows World) (text : List ℕ) (left now : Sourced) (old new : Sunk)
      (r : Result (Unit {0}) (End Halt)) → EndsRun p IsSuch shows text left now old new r
      → EndsRun p IsOther shows text left now old new r
  runs-weaker shows text left now old new r h =
      record { taken = h.taken; ends = by-answer shows text left now old new r h.ends }
