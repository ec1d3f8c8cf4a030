-- One fact is recorded behind others.
use Rattle.std.proofs.Common.{◌≡◌, ℕ, ◌+◌, ◌<◌, List, [], ◌∷◌, ◌++◌, length, take, Option, Ok, Err, sym, ap, ◌∙◌, subst, length-append, arith, inr}
use Rattle.std.proofs.lemmas.List.{append-nil}
use Rattle.lan_base.specs.Told.{after}
use Rattle.lan_core.specs.declared.fact.Fact.{Fact}
use Rattle.text_lines.specs.Moments.{Moment}
use Rattle.capture_file.specs.Records.{Packet, records_of}
use Rattle.transcript_reader.specs.Taking.{TakesFact}
use Rattle.transcript_capture.specs.declared.clock.Clock.{Clock}
use Rattle.transcript_capture.specs.declared.fault.RecordError.{RecordError}
use Rattle.transcript_capture.specs.declared.fault.RecordError.TheVariants.{TooLong, Failed, Memory}
use Rattle.transcript_capture.specs.Lines.{by_length}
use Rattle.transcript_reader.specs.Time.{ticks}
use Rattle.transcript_capture.specs.Packets.{packet_of, packets}
use Rattle.transcript_capture.specs.Recording.{IsClockAfter, Records, WrotePart, recorded}
use Rattle.transcript_capture.specs.inside.Holding.{after-after, part-behind}
use Rattle.transcript_capture.specs.inside.Parts.{packets-append, records-append}
use Rattle.transcript_capture.specs.inside.Recorded.{Refuses, error_of_recording, recorded_all}

one-more : (earlier : List Fact) (fact : Fact)
    → records_of (packets (earlier ++ fact ∷ [])) ≡ records_of (packets earlier) ++ recorded earlier fact
one-more earlier fact =
    ap records_of (packets-append [] earlier (fact ∷ [])
    ∙ ap (λ (ps : List Packet). packets earlier ++ ps) (append-nil (packet_of (ticks earlier) fact)))
    ∙ records-append (packets earlier) (packet_of (ticks earlier) fact)

module _ {K : Type 0} (held : K → Option (List ℕ)) (first now : Moment Clock K) (earlier : List Fact) (fact : Fact)
    (old : Clock) (between : Option (List ℕ)) (clock : IsClockAfter earlier old)
    (written : between ≡ after (held first.outlet) (records_of (packets earlier))) where
  part : WrotePart (recorded earlier fact) between (held now.outlet)
      → (n : ℕ) × (n < length (records_of (packets (earlier ++ fact ∷ []))))
      × (held now.outlet ≡ after (held first.outlet) (take n (records_of (packets (earlier ++ fact ∷ [])))))
  part (n, less, is) =
      let all = records_of (packets earlier) in
      let l = length-append all (recorded earlier fact) in
      let same = ap length (one-more earlier fact) in (
        length all + n,
        omega (arith, l, same, less),
        part-behind (held first.outlet) between (held now.outlet) all (recorded earlier fact) n written is
            ∙ ap (λ (l : List ℕ). after (held first.outlet) (take (length all + n) l)) (sym (one-more earlier fact)),
      )

  -- it was recorded
  pub fact-recorded : (u v : Unit {0})
      → Records earlier fact old now.taker between (held now.outlet) (Ok u)
      → TakesFact by_length Refuses (recorded_all held) first earlier fact now (Ok v)
  fact-recorded u v (fits, then, is) = (
    fits,
    (
      then,
      is ∙ ap (λ (h : Option (List ℕ)). after h (recorded earlier fact)) written
          ∙ after-after (held first.outlet) (records_of (packets earlier)) (recorded earlier fact)
          ∙ ap (after (held first.outlet)) (sym (one-more earlier fact)),
    ),
  )

  -- it was not
  pub fact-left : (error : RecordError) → Records earlier fact old now.taker between (held now.outlet) (Err error)
      → TakesFact by_length Refuses (recorded_all held) first earlier fact now (Err (error_of_recording error))
  fact-left TooLong (long, same, is) =
      (long, (subst (λ (c : Clock). IsClockAfter earlier c) (sym same) clock, is ∙ written))
  fact-left Failed (fits, same, is) = (fits, part is)
  fact-left Memory (fits, same, is) = let p = part is in inr (fits, (p.0, p.2))
