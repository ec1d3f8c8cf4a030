-- How capturing a transcript comes to its end.
use Rattle.std.proofs.Common.{◌≡◌, ℕ, ◌+◌, List, [], length, Option, Result, Ok, Err, refl, ap, ◌∙◌, length-append, arith, inl, inr}
use Rattle.lan_base.specs.Told.{after}
use Rattle.lan_core.specs.declared.fact.Fact.{Fact}
use Rattle.text_lines.specs.Moments.{Moment}
use Rattle.text_lines.specs.Reading.{Sourced, lines_within}
use Rattle.capture_file.specs.Pcap.{head_octets}
use Rattle.capture_file.specs.Records.{file_of, records_of}
use Rattle.lan_base.specs.Ranges.{most_input}
use Rattle.transcript_reader.specs.Facts.{nothing}
use Rattle.transcript_reader.specs.Reached.{Reached, WasReached}
use Rattle.transcript_reader.specs.Transcripts.{EndsBy, EndsReading, IsFrontRead}
use Rattle.transcript_reader.specs.Turns.{ReadsInTurn}
use Rattle.text_lines.specs.declared.unfinished.Unfinished.{Unfinished}
use Rattle.text_lines.specs.declared.unfinished.Unfinished.TheVariants as ends
use Rattle.transcript_reader.proofs.Public.{answers-as, ends-as, turned-as}
use Rattle.transcript_capture.specs.declared.clock.Clock.{Clock}
use Rattle.transcript_capture.specs.declared.fault.LineFault.{LineFault}
use Rattle.transcript_capture.specs.Captures.{IsCaptured, IsUnbegun, IsWritten, WasWritten}
use Rattle.transcript_capture.specs.Lines.{by_length}
use Rattle.transcript_capture.specs.Packets.{packets}
use Rattle.transcript_capture.specs.inside.Heading.{Heads}
use Rattle.transcript_capture.specs.inside.Holding.{after-after, after-none, part-behind}
use Rattle.transcript_capture.specs.inside.Recorded.{Grew, recorded_all}

-- ---- the head was not written whole

abbrev front-none : (Holds : List Fact → Type 0) (text : List ℕ) → Holds []
    → IsFrontRead by_length Holds (lines_within most_input text)
front-none Holds text holds = record {
  front = [];
  later = lines_within most_input text;
  parts = refl;
  read = record { known = nothing; facts = []; taken = (refl, refl); holds = holds };
}

pub head-ends : (text : List ℕ) (left : Sourced) (held then : Option (List ℕ)) (end : Unfinished LineFault)
    → Heads held then (Err end) → IsCaptured text left left held then (Err end)
head-ends text left held then end h = record { taken = inl refl; ends = go end h }
  where
    go : (end : Unfinished LineFault) → Heads held then (Err end)
        → EndsBy {X = Unit {0}} by_length (IsWritten held then (Err end)) text left left (Err end)
    go (ends.Refused line why) h = absurd h
    go ends.Limit h = absurd h
    go ends.ReadFault h = absurd h
    go ends.WriteFault (n, less, is) = front-none (IsWritten held then (Err ends.WriteFault)) text (n, less, is)
    go ends.Memory (n, less, is) = front-none (IsWritten held then (Err ends.Memory)) text (n, is)

pub head-unbegun : {S : Type 0} (s : S) (held then : Option (List ℕ)) (end : Unfinished LineFault)
    → Heads held then (Err end) → IsUnbegun s s held then (Err end)
head-unbegun s held then (ends.Refused line why) h = absurd h
head-unbegun s held then ends.Limit h = absurd h
head-unbegun s held then ends.ReadFault h = absurd h
head-unbegun s held then ends.WriteFault (n, less, is) = (refl, (n, less, is))
head-unbegun s held then ends.Memory (n, less, is) = (refl, (n, is))

pub unbegun : {S : Type 0} (s : S) (held : Option (List ℕ)) → IsUnbegun s s held held (Err ends.Memory)
unbegun s held = (refl, (0, after-none held))

-- nothing was read and nothing written, for want of memory
pub not-captured : (text : List ℕ) (left : Sourced) (held : Option (List ℕ))
    → IsCaptured text left left held held (Err ends.Memory)
not-captured text left held = record {
  taken = inl refl;
  ends = front-none (IsWritten held held (Err ends.Memory)) text (0, after-none held);
}

-- ---- behind the head

module _ {K : Type 0} (held : K → Option (List ℕ)) (faults : K → ℕ) (first last : Moment Clock K)
    (before : Option (List ℕ)) (head : held first.outlet ≡ after before head_octets) where
  wrote : (facts : List Fact) → held last.outlet ≡ after (held first.outlet) (records_of (packets facts))
      → held last.outlet ≡ after before (file_of (packets facts))
  wrote facts is =
      is ∙ ap (λ (h : Option (List ℕ)). after h (records_of (packets facts))) head
      ∙ after-after before head_octets (records_of (packets facts))

  was-written : (facts : List Fact) → WasReached (recorded_all held) (Grew held faults) first last facts
      → WasWritten before (held last.outlet) facts
  was-written facts w =
      let more = w.grew.0 in
      let all = records_of (packets facts) in (
        more.0,
        more.1 ∙ ap (λ (h : Option (List ℕ)). after h more.0)
            (w.took.1 ∙ ap (λ (h : Option (List ℕ)). after h all) head ∙ after-after before head_octets all)
            ∙ after-after before (file_of (packets facts)) more.0,
      )

  is-written : (why : Unfinished LineFault) (facts : List Fact) → Reached (recorded_all held) first last (Err why) facts
      → IsWritten before (held last.outlet) (Err why) facts
  is-written (ends.Refused line why) facts took = wrote facts took.1
  is-written ends.Limit facts took = wrote facts took.1
  is-written ends.ReadFault facts took = wrote facts took.1
  is-written ends.WriteFault facts (n, less, is) =
      let l = length-append head_octets (records_of (packets facts)) in (
        length head_octets + n,
        omega (arith, l, less),
        part-behind before (held first.outlet) (held last.outlet) head_octets (records_of (packets facts)) n head is,
      )
  is-written ends.Memory facts (n, is) = (
    length head_octets + n,
    part-behind before (held first.outlet) (held last.outlet) head_octets (records_of (packets facts)) n head is,
  )

  module _ (text : List ℕ) (left now : Sourced) where
    pub captured : (r : Result (Unit {0}) (Unfinished LineFault))
        → EndsReading by_length (WasReached (recorded_all held) (Grew held faults) first last)
        (Reached (recorded_all held) first last r) text left now r
        → IsCaptured text left now before (held last.outlet) r
    captured (Ok done) e =
        let d = answers-as by_length (WasReached (recorded_all held) (Grew held faults) first last)
        (WasWritten before (held last.outlet)) (Reached {F = LineFault} (recorded_all held) first last (Ok done))
        (IsWritten before (held last.outlet) (Ok done)) was-written (λ facts took. wrote facts took.1) text left now
        done done e in
        record { taken = inr d.taken; ends = d.ends }
    captured (Err why) e =
        let d = ends-as by_length (WasReached (recorded_all held) (Grew held faults) first last)
        (WasWritten before (held last.outlet)) (Reached (recorded_all held) first last (Err why))
        (IsWritten before (held last.outlet) (Err why)) was-written (is-written why) text left now
        (Unit {0}) (Unit {0}) why e in
        record { taken = inr d.taken; ends = d.ends }

  -- whatever the source tells
  pub captured-in-turn : {S : Type 0} (Gave : S → Option (List ℕ) → S → Type 0) (s s_then : S)
      (r : Result (Unit {0}) (Unfinished LineFault))
      → ReadsInTurn Gave by_length (WasReached (recorded_all held) (Grew held faults) first last)
      (Reached (recorded_all held) first last r) s s_then r
      → ReadsInTurn Gave by_length (WasWritten before (held last.outlet)) (IsWritten before (held last.outlet) r)
      s s_then r
  captured-in-turn Gave s s_then (Ok done) t =
      turned-as {X = Unit {0}} Gave by_length (WasReached (recorded_all held) (Grew held faults) first last)
      (WasWritten before (held last.outlet)) (Reached {F = LineFault} (recorded_all held) first last (Ok done))
      (IsWritten before (held last.outlet) (Ok done)) was-written (λ facts took. wrote facts took.1) s s_then
      (Ok done) t
  captured-in-turn Gave s s_then (Err why) t =
      turned-as {X = Unit {0}} Gave by_length (WasReached (recorded_all held) (Grew held faults) first last)
      (WasWritten before (held last.outlet)) (Reached (recorded_all held) first last (Err why))
      (IsWritten before (held last.outlet) (Err why)) was-written (is-written why) s s_then (Err why) t
