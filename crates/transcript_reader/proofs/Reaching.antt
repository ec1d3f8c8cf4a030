-- How a transcript that is read comes to its end.
use Rattle.std.proofs.Common.{◌≡◌, ◌∙◌, ◌+◌, ◌≤◌, ℕ, List, [], ◌∷◌, ◌++◌, length, Some, Result, Ok, Err, refl, ap, subst, arith}
use Rattle.std.specs.Prelude.{take}
use Rattle.std.proofs.Math.Nat.{min-eq_left}
use Rattle.std.proofs.lemmas.List.{length-append}
use Rattle.lan_base.specs.Faults.{Rose}
use Rattle.lan_core.specs.declared.fact.Fact.{Fact}
use Rattle.text_lines.specs.declared.reading.End.{End}
use Rattle.text_lines.specs.declared.reading.End.TheVariants as lines
use Rattle.text_lines.specs.Moments.{Moment}
use Rattle.text_lines.specs.Reading.{Ends, Reads, Runs, Sourced, Takes, lines_within}
use Rattle.text_lines.specs.Texts.{lines_of, whole_lines}
use Rattle.lan_base.specs.Ranges.{most_input}
use Rattle.transcript_reader.specs.Counting.{number_after}
use Rattle.transcript_reader.specs.Facts.{Known, nothing}
use Rattle.transcript_reader.specs.Reached.{Reached, WasReached}
use Rattle.transcript_reader.specs.Taking.{Courses, Rule}
use Rattle.transcript_reader.specs.Transcripts.{AreRead, AreTaken, EndsBy, EndsReading, IsFrontRead, IsRefused, IsTakenFrom}
use Rattle.transcript_reader.specs.declared.take_error.TakeError.{TakeError}
use Rattle.transcript_reader.specs.declared.take_error.TakeError.TheVariants.{Refused, Failed, Memory}
use Rattle.text_lines.specs.declared.unfinished.Unfinished.TheVariants as ends
use Rattle.transcript_reader.specs.inside.Lines.{DidLines, Seeing, TookPart, TookTo, beside, why_unfinished}

-- each line tells one fact
taken-length : {F : Type 0} (rule : Rule F) (known : Known) (facts : List Fact) (xs : List (List ℕ)) (last : Known)
    (all : List Fact) → AreTaken rule known facts xs last all → length all ≡ length facts + length xs
taken-length rule known facts [] last all t =
    let same : length facts ≡ length all = ap (λ (fs : List Fact). length fs) t.1 in
    omega (arith, same)
taken-length rule known facts (x ∷ xs) last all t =
    let rest = taken-length rule t.0 (facts ++ t.1 ∷ []) xs last all t.4 in
    let one = length-append facts (t.1 ∷ []) in
    omega (arith, rest, one)

counted : (count few : ℕ) → count + 1 ≤ few → few ≤ most_input + 1 → number_after count ≡ count + 1
counted count few less most = min-eq_left (omega (arith, less, most))

module _ {F P T K : Type 0} (rule : Rule F) (courses : Courses T K) (Grew Fails : K → K → Type 0) (see : Seeing P T)
    (left now : Sourced) (old new : Moment P K) where
  abbrev Did : List (List ℕ) → Moment P K → Moment P K → Result (Unit {0}) (TakeError F) → Type 0
  Did lines a b result = DidLines rule courses Grew Fails see lines a b result

  module _ (breaks : (first now : Moment T K) (facts : List Fact) → courses.Took first facts now
      → courses.Broke first facts now) (fresh : see.known old.taker ≡ nothing) (none : see.count old.taker ≡ 0)
      (start : courses.Took (beside see old) [] (beside see old)) where
    from-nothing : (lines : List (List ℕ)) (after : Known) (told : List Fact)
        → AreTaken rule (see.known old.taker) [] lines after told → AreTaken rule nothing [] lines after told
    from-nothing lines after told t = subst (λ (k : Known). AreTaken rule k [] lines after told) fresh t

    pub read : (Holds : List Fact → Type 0) (lines : List (List ℕ)) (at : Moment P K)
        → ((told : List Fact) → courses.Took (beside see old) told (beside see at) → Holds told)
        → Did lines old at (Ok tt) → AreRead rule Holds lines
    read Holds lines at so d =
        let t = d.takes (beside see old) [] none start in record {
          known = see.known at.taker;
          facts = t.told;
          taken = from-nothing lines (see.known at.taker) t.told t.taken;
          holds = so t.told t.holds;
        }

    pub front-read : (Was Holds : List Fact → Type 0) (lines : List (List ℕ)) → ((told : List Fact) → Was told → Holds told)
        → TookPart rule Was (see.known old.taker) [] lines → IsFrontRead rule Holds lines
    front-read Was Holds lines so u = record {
      front = u.front;
      later = u.later;
      parts = u.parts;
      read = record {
        known = u.after;
        facts = u.told;
        taken = from-nothing u.front u.after u.told u.taken;
        holds = so u.told u.holds;
      };
    }

    pub refused : (Was Holds : List Fact → Type 0) (lines : List (List ℕ)) → length lines ≤ most_input + 1
        → ((told : List Fact) → Was told → Holds told) → (count : ℕ) (why : F)
        → TookTo rule Was (see.known old.taker) [] lines count why
        → IsRefused rule Holds lines (number_after count) why
    refused Was Holds lines few so count why s =
        let many = taken-length rule (see.known old.taker) [] s.earlier s.after s.took.told s.took.taken in
        let counts = s.took.counted in
        let parts : length (s.earlier ++ s.line ∷ s.later) ≡ length lines =
        ap (λ (xs : List (List ℕ)). length xs) s.parts in
        let whole = length-append s.earlier (s.line ∷ s.later) in
        let same : count ≡ length s.earlier = omega (arith, many, counts) in
        let less : count + 1 ≤ length lines = omega (arith, same, parts, whole) in
        record {
          earlier = s.earlier;
          line = s.line;
          later = s.later;
          parts = s.parts;
          number_is = counted count (length lines) less few ∙ ap (λ n. n + 1) same;
          read = record {
            known = s.after;
            facts = s.took.told;
            taken = from-nothing s.earlier s.after s.took.told s.took.taken;
            holds = so s.took.told s.took.holds;
          };
          denied = s.denied;
        }

    -- ---- what was taken before the last octets

    grew-last : (taken : List ℕ) (all last : List (List ℕ)) (between : Moment P K)
        (r : Result (Unit {0}) (End (TakeError F))) → Ends Did most_input taken all last left now between new r
        → Grew between.outlet new.outlet
    grew-last taken all last between (Ok done) e = e.3.grew
    grew-last taken all last between (Err (lines.Refused error)) e = e.1.grew
    grew-last taken all last between (Err lines.Memory) e = e.1.did.grew
    grew-last taken all last between (Err lines.ReadFault) e = e.3.grew
    grew-last taken all last between (Err lines.Limit) e = e.2.grew

    taken-from : (r : Result (Unit {0}) (End (TakeError F))) → Takes Did most_input left now old new r
        → IsTakenFrom rule (WasReached courses Grew (beside see old) (beside see new)) left now
    taken-from r t = record {
      earlier = t.earlier;
      piece = t.piece;
      moved = t.moved;
      within = t.within;
      at_once = t.at_once;
      read = read (WasReached courses Grew (beside see old) (beside see new)) (whole_lines t.earlier) t.between
          (λ told took. record {
            then = beside see t.between;
            took = took;
            grew = grew-last (t.earlier ++ t.piece) (whole_lines t.earlier ++ t.last) t.last t.between r t.ends;
          }) t.taken;
    }

    -- ---- by the end

    pub ends-ok : (text : List ℕ) → Reads Did most_input left now old new (Ok tt) → left.left ≡ Some text
        → EndsReading rule (WasReached courses Grew (beside see old) (beside see new))
        (Reached {F = F} courses (beside see old) (beside see new) (Ok (tt {0}))) text left now (Ok (tt {0}))
    ends-ok text reads told =
        let runs = reads.runs text told in record {
          taken = taken-from (Ok tt) reads.takes;
          ends = (
            runs.0,
            runs.1,
            read (Reached {F = F} courses (beside see old) (beside see new) (Ok (tt {0}))) (lines_of text) new
                (λ told took. took) runs.2,
          );
        }

    by-end : (text : List ℕ) → length (lines_within most_input text) ≤ most_input + 1
        → (end : End (TakeError F)) → Runs Did most_input text left now old new (Err end)
        → EndsBy {X = Unit {0}} rule
        (Reached courses (beside see old) (beside see new) (Err (why_unfinished end (see.count new.taker)))) text left now
        (Err (why_unfinished end (see.count new.taker)))
    by-end text few (lines.Refused (Refused why)) runs =
        refused (λ told. courses.Took (beside see old) told (beside see new))
        (Reached courses (beside see old) (beside see new) (Err (ends.Refused (number_after (see.count new.taker)) why)))
        (lines_within most_input text) few (λ told took. took) (see.count new.taker) why
        (runs.takes (beside see old) [] none start)
    by-end text few (lines.Refused Failed) runs =
        front-read (λ told. courses.Cut (beside see old) told (beside see new))
        (Reached {F = F} courses (beside see old) (beside see new) (Err ends.WriteFault))
        (lines_within most_input text) (λ told took. took) (runs.takes (beside see old) [] none start)
    by-end text few (lines.Refused Memory) runs =
        front-read (λ told. courses.Broke (beside see old) told (beside see new))
        (Reached {F = F} courses (beside see old) (beside see new) (Err ends.Memory))
        (lines_within most_input text) (λ told took. took) (runs.takes (beside see old) [] none start)
    by-end text few lines.Memory runs = record {
      front = runs.front;
      later = runs.rest;
      parts = runs.parts;
      read = read (Reached {F = F} courses (beside see old) (beside see new) (Err ends.Memory)) runs.front new
          (λ told took. breaks (beside see old) (beside see new) told took) runs.did;
    }
    by-end text few lines.ReadFault runs =
        let t = runs.1 in (
          runs.0,
          (
            t.0,
            t.1,
            t.2,
            read (Reached {F = F} courses (beside see old) (beside see new) (Err ends.ReadFault))
                (whole_lines t.0) new (λ told took. took) t.3,
          ),
        )
    by-end text few lines.Limit runs = (
      runs.0,
      read (Reached {F = F} courses (beside see old) (beside see new) (Err ends.Limit))
          (whole_lines (take most_input text)) new (λ told took. took) runs.1,
    )

    pub ends-err : (text : List ℕ) → length (lines_within most_input text) ≤ most_input + 1
        → (end : End (TakeError F)) → Reads Did most_input left now old new (Err end) → left.left ≡ Some text
        → EndsReading {X = Unit {0}} rule (WasReached courses Grew (beside see old) (beside see new))
        (Reached courses (beside see old) (beside see new) (Err (why_unfinished end (see.count new.taker)))) text left now
        (Err (why_unfinished end (see.count new.taker)))
    ends-err text few end reads told = record {
      taken = taken-from (Err end) reads.takes;
      ends = by-end text few end (reads.runs text told);
    }

  -- ---- faults, whatever the source tells

  pub outlet-failed : ((a b c : K) → Grew a b → Fails b c → Fails a c) → (end : End (TakeError F)) (count : ℕ)
      → Reads Did most_input left now old new (Err end) → why_unfinished end count ≡ ends.WriteFault
      → Fails old.outlet new.outlet
  outlet-failed late (lines.Refused (Refused why)) count r is = absurd (cc is)
  outlet-failed late (lines.Refused Failed) count r is =
      let t = r.takes in
      late old.outlet t.between.outlet new.outlet t.taken.grew (t.ends.1.failed refl)
  outlet-failed late (lines.Refused Memory) count r is = absurd (cc is)
  outlet-failed late lines.Memory count r is = absurd (cc is)
  outlet-failed late lines.ReadFault count r is = absurd (cc is)
  outlet-failed late lines.Limit count r is = absurd (cc is)

  pub source-failed : (end : End (TakeError F)) (count : ℕ) → Reads Did most_input left now old new (Err end)
      → why_unfinished end count ≡ ends.ReadFault → Rose left.faults now.faults
  source-failed (lines.Refused (Refused why)) count r is = absurd (cc is)
  source-failed (lines.Refused Failed) count r is = absurd (cc is)
  source-failed (lines.Refused Memory) count r is = absurd (cc is)
  source-failed lines.Memory count r is = absurd (cc is)
  source-failed lines.ReadFault count r is = r.takes.ends.0
  source-failed lines.Limit count r is = absurd (cc is)

  pub outlet-grew : ((a b c : K) → Grew a b → Grew b c → Grew a c) → (r : Result (Unit {0}) (End (TakeError F)))
      → Reads Did most_input left now old new r → Grew old.outlet new.outlet
  outlet-grew further (Ok done) r =
      let t = r.takes in further old.outlet t.between.outlet new.outlet t.taken.grew t.ends.3.grew
  outlet-grew further (Err (lines.Refused error)) r =
      let t = r.takes in further old.outlet t.between.outlet new.outlet t.taken.grew t.ends.1.grew
  outlet-grew further (Err lines.Memory) r =
      let t = r.takes in further old.outlet t.between.outlet new.outlet t.taken.grew t.ends.1.did.grew
  outlet-grew further (Err lines.ReadFault) r =
      let t = r.takes in further old.outlet t.between.outlet new.outlet t.taken.grew t.ends.3.grew
  outlet-grew further (Err lines.Limit) r =
      let t = r.takes in further old.outlet t.between.outlet new.outlet t.taken.grew t.ends.2.grew
