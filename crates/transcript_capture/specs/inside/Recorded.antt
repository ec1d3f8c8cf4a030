-- What holds where facts were recorded, one after another: what the laws of a taker of facts cite.
use Rattle.std.specs.Prelude.{◌≡◌, ℕ, ◌<◌, ◌≤◌, List, [], ◌++◌, length, take, Option, Result, Ok, Err, OnOk, OnErr}
use Rattle.std.proofs.Common.{ap, ◌∙◌, sym, arith}
use Rattle.std.proofs.lemmas.List.{take_all}
use Rattle.lan_base.specs.Told.{after}
use Rattle.lan_base.specs.declared.sink.Unwritten.{Unwritten}
use Rattle.lan_core.specs.declared.fact.Fact.{Fact}
use Rattle.text_lines.specs.Moments.{Moment}
use Rattle.capture_file.specs.Records.{records_of}
use Rattle.transcript_reader.specs.Facts.{Known, Tells}
use Rattle.transcript_reader.specs.Taking.{Courses}
use Rattle.transcript_reader.specs.declared.take_error.TakeError.{TakeError}
use Rattle.transcript_reader.specs.declared.take_error.TakeError.TheVariants as takings
use Rattle.transcript_capture.specs.declared.clock.Clock.{Clock}
use Rattle.transcript_capture.specs.declared.fault.LineFault.{LineFault}
use Rattle.transcript_capture.specs.declared.fault.LineFault.TheVariants.{Unread, TooLong}
use Rattle.transcript_capture.specs.declared.fault.RecordError.{RecordError}
use Rattle.transcript_capture.specs.declared.fault.RecordError.TheVariants as errors
use Rattle.transcript_capture.specs.Lines.{IsDenied}
use Rattle.transcript_capture.specs.Packets.{Fits, packets}
use Rattle.transcript_capture.specs.Recording.{IsClockAfter}
use Rattle.transcript_capture.specs.inside.Holding.{after-after, after-none}

-- why a fact is refused behind others
abbrev pub Refuses : List Fact → Fact → LineFault → Type 0
Refuses earlier fact Unread = ⊥
Refuses earlier fact TooLong = Fits fact → ⊥

-- since a first moment the records of facts were written behind what was held, and the clock went on
abbrev pub recorded_all : {K : Type 0} → (K → Option (List ℕ)) → Courses Clock K
recorded_all held = record {
  Took = λ first facts now. IsClockAfter facts now.taker
      × (held now.outlet ≡ after (held first.outlet) (records_of (packets facts)));
  Broke = λ first facts now. (n : ℕ)
      × (held now.outlet ≡ after (held first.outlet) (take n (records_of (packets facts))));
  Cut = λ first facts now. (n : ℕ) × (n < length (records_of (packets facts)))
      × (held now.outlet ≡ after (held first.outlet) (take n (records_of (packets facts))));
}

-- what a sink holds grew at its end, and so did its count of faults
abbrev pub Grew : {K : Type 0} → (K → Option (List ℕ)) → (K → ℕ) → K → K → Type 0
Grew held faults old new = ((more : List ℕ) × (held new ≡ after (held old) more)) × (faults old ≤ faults new)

-- why a fact is not taken
abbrev pub error_of_recording : RecordError → TakeError LineFault
error_of_recording errors.TooLong = takings.Refused TooLong
error_of_recording errors.Failed = takings.Failed
error_of_recording errors.Memory = takings.Memory

-- ---- laws

pub fact-denies : (known after : Known) (line : List ℕ) (earlier : List Fact) (fact : Fact) (why : LineFault)
    → Tells known line after fact → Refuses earlier fact why → IsDenied known line why
fact-denies known after line earlier fact Unread tells refused = absurd refused
fact-denies known after line earlier fact TooLong tells refused = (after, fact, tells, refused)

module _ {K : Type 0} (held : K → Option (List ℕ)) (faults : K → ℕ) where
  pub all-part : (first now : Moment Clock K) (facts : List Fact) → (recorded_all held).Took first facts now
      → (recorded_all held).Broke first facts now
  all-part first now facts took =
      let all = records_of (packets facts) in
      (length all, took.1 ∙ ap (after (held first.outlet)) (sym (take_all (length all) all (omega arith))))

  pub grew-none : (a : K) → Grew held faults a a
  grew-none a = (([], after-none (held a)), omega arith)

  pub grew-then : (a b c : K) → Grew held faults a b → Grew held faults b c → Grew held faults a c
  grew-then a b c first then =
      let x = first.1 in
      let y = then.1 in (
        (
          first.0.0 ++ then.0.0,
          then.0.1 ∙ ap (λ (h : Option (List ℕ)). after h then.0.0) first.0.1
              ∙ after-after (held a) first.0.0 then.0.0,
        ),
        omega (arith, x, y),
      )

  -- octets were written to it, or a front of them
  pub grew-written : (old new : K) (octets : List ℕ) (r : Result (Unit {0}) Unwritten)
      → OnOk r (held new ≡ after (held old) octets)
      → OnErr r ((n : ℕ) × (n < length octets) × (held new ≡ after (held old) (take n octets)))
      → faults old ≤ faults new → Grew held faults old new
  grew-written old new octets (Ok done) all part counts = ((octets, all), counts)
  grew-written old new octets (Err why) all part counts = ((take part.0 octets, part.2), counts)
