-- How a transcript that is read in turns comes to its end.
use Rattle.std.proofs.Common.{◌≡◌, ◌≤◌, ℕ, List, [], length, Option, Some, None, Result, Ok, Err}
use Rattle.std.specs.Prelude.{take}
use Rattle.lan_base.specs.Ranges.{most_input}
use Rattle.lan_core.specs.declared.fact.Fact.{Fact}
use Rattle.text_lines.specs.declared.reading.End.{End}
use Rattle.text_lines.specs.declared.reading.End.TheVariants as lines
use Rattle.text_lines.specs.declared.unfinished.Unfinished.{Unfinished}
use Rattle.text_lines.specs.declared.unfinished.Unfinished.TheVariants as ends
use Rattle.text_lines.specs.Moments.{Moment}
use Rattle.text_lines.specs.Reading.{Sourced, sourced}
use Rattle.text_lines.specs.Texts.{lines_of, whole_lines}
use Rattle.text_lines.specs.Turns.{InTurn, lines_due}
use Rattle.text_lines.proofs.Public.{Laws, Seen, due-few, together, turns-weaker}
use Rattle.transcript_reader.specs.Counting.{number_after}
use Rattle.transcript_reader.specs.Facts.{Known, nothing}
use Rattle.transcript_reader.specs.Reached.{Reached, WasReached}
use Rattle.transcript_reader.specs.Taking.{Courses, Rule}
use Rattle.transcript_reader.specs.Transcripts.{AreRead, IsFrontRead, IsRefused}
use Rattle.transcript_reader.specs.Turns.{EndsTurn, ReadsInTurn}
use Rattle.transcript_reader.specs.declared.take_error.TakeError.{TakeError}
use Rattle.transcript_reader.specs.declared.take_error.TakeError.TheVariants.{Refused, Failed, Memory}
use Rattle.transcript_reader.specs.inside.Lines.{DidLines, Seeing, TookPart, TookTo, beside, why_unfinished}
use Rattle.transcript_reader.specs.inside.Composing.{did-none, did-more, did-early}
use Rattle.transcript_reader.proofs.Reaching.{front-read, read, refused}

-- what is left in the source plays no part in which lines were taken
abbrev rest : Sourced
rest = sourced None 0

module _ {F P T K : Type 0} (rule : Rule F) (courses : Courses T K) (Grew Fails : K → K → Type 0) (see : Seeing P T)
    (old new : Moment P K) where
  abbrev Did : List (List ℕ) → Moment P K → Moment P K → Result (Unit {0}) (TakeError F) → Type 0
  Did lines a b result = DidLines rule courses Grew Fails see lines a b result

  laws : ((k : K) → Grew k k) → ((a b c : K) → Grew a b → Grew b c → Grew a c)
      → ((a b c : K) → Grew a b → Fails b c → Fails a c) → Laws Did
  laws stays further late = record {
    none = did-none rule courses Grew Fails see stays;
    more = did-more rule courses Grew Fails see further late;
    early = did-early rule courses Grew Fails see;
  }

  module _ (breaks : (first now : Moment T K) (facts : List Fact) → courses.Took first facts now
      → courses.Broke first facts now) (fresh : see.known old.taker ≡ nothing) (none : see.count old.taker ≡ 0)
      (start : courses.Took (beside see old) [] (beside see old)) where
    were-read : (Holds : List Fact → Type 0) (lines : List (List ℕ)) (at : Moment P K)
        → ((told : List Fact) → courses.Took (beside see old) told (beside see at) → Holds told)
        → Did lines old at (Ok tt) → AreRead rule Holds lines
    were-read Holds lines at so d =
        read rule courses Grew Fails see rest rest old new breaks fresh none start Holds lines at so d

    part-read : (Was Holds : List Fact → Type 0) (lines : List (List ℕ))
        → ((told : List Fact) → Was told → Holds told)
        → TookPart rule Was (see.known old.taker) [] lines → IsFrontRead rule Holds lines
    part-read Was Holds lines so u =
        front-read rule courses Grew Fails see rest rest old new breaks fresh none start Was Holds lines so u

    held : (r : Result (Unit {0}) (End (TakeError F))) (octets : List ℕ) (last : Option (List ℕ))
        → Seen Did most_input octets last old new r
        → AreRead rule (WasReached courses Grew (beside see old) (beside see new)) (whole_lines octets)
    held r octets last s =
        were-read (WasReached courses Grew (beside see old) (beside see new)) (whole_lines octets) s.told
        (λ told took. record { then = beside see s.told; took = took; grew = s.since.did.grew }) s.taken

    by-end : (end : End (TakeError F)) (octets : List ℕ) (last : Option (List ℕ))
        → Seen Did most_input octets last old new (Err end)
        → EndsTurn {X = Unit {0}} rule
        (Reached courses (beside see old) (beside see new) (Err (why_unfinished end (see.count new.taker))))
        (Err (why_unfinished end (see.count new.taker))) octets last
    by-end (lines.Refused (Refused why)) octets last s =
        let a = s.all in (
          a.0,
          a.1,
          refused rule courses Grew Fails see rest rest old new breaks fresh none start
              (λ told. courses.Took (beside see old) told (beside see new))
              (Reached courses (beside see old) (beside see new)
              (Err (ends.Refused (number_after (see.count new.taker)) why)))
              (lines_due most_input octets a.0) (due-few most_input octets a.0 s.within)
              (λ told took. took) (see.count new.taker) why (a.2.takes (beside see old) [] none start),
        )
    by-end (lines.Refused Failed) octets last s =
        let a = s.all in (
          a.0,
          a.1,
          part-read (λ told. courses.Cut (beside see old) told (beside see new))
              (Reached {F = F} courses (beside see old) (beside see new) (Err ends.WriteFault))
              (lines_due most_input octets a.0) (λ told took. took) (a.2.takes (beside see old) [] none start),
        )
    by-end (lines.Refused Memory) octets last s =
        let a = s.all in (
          a.0,
          a.1,
          part-read (λ told. courses.Broke (beside see old) told (beside see new))
              (Reached {F = F} courses (beside see old) (beside see new) (Err ends.Memory))
              (lines_due most_input octets a.0) (λ told took. took) (a.2.takes (beside see old) [] none start),
        )
    by-end lines.Memory octets last s =
        let a = s.all in
        let f = a.2 in (
          a.0,
          a.1,
          record {
            front = f.front;
            later = f.rest;
            parts = f.parts;
            read = were-read (Reached {F = F} courses (beside see old) (beside see new) (Err ends.Memory)) f.front
                new (λ told took. breaks (beside see old) (beside see new) told took) f.did;
          },
        )
    by-end lines.ReadFault octets last s =
        let a = s.all in (
          a.0,
          were-read (Reached {F = F} courses (beside see old) (beside see new) (Err ends.ReadFault))
              (whole_lines octets) new (λ told took. took) a.1,
        )
    by-end lines.Limit octets last s =
        let a = s.all in (
          a.0,
          a.1,
          a.2,
          were-read (Reached {F = F} courses (beside see old) (beside see new) (Err ends.Limit)) _ new
              (λ told took. took) a.3,
        )

    module _ (stays : (k : K) → Grew k k) (further : (a b c : K) → Grew a b → Grew b c → Grew a c)
        (late : (a b c : K) → Grew a b → Fails b c → Fails a c) {S : Type 0}
        (Gave : S → Option (List ℕ) → S → Type 0) (s s_then : S) where
      pub turned-ok : InTurn Gave Did most_input s s_then old new (Ok tt)
          → ReadsInTurn Gave rule (WasReached courses Grew (beside see old) (beside see new))
          (Reached {F = F} courses (beside see old) (beside see new) (Ok (tt {0}))) s s_then (Ok (tt {0}))
      turned-ok h =
          together Gave Did (laws stays further late) _ _ most_input s s_then old new (Ok tt) (λ octets last seen. (
            held (Ok tt) octets last seen,
            (
              seen.all.0,
              were-read (Reached {F = F} courses (beside see old) (beside see new) (Ok (tt {0})))
                  (lines_of octets) new (λ told took. took) seen.all.1,
            ),
          )) h

      pub turned-err : (end : End (TakeError F)) → InTurn Gave Did most_input s s_then old new (Err end)
          → ReadsInTurn {X = Unit {0}} Gave rule (WasReached courses Grew (beside see old) (beside see new))
          (Reached courses (beside see old) (beside see new) (Err (why_unfinished end (see.count new.taker)))) s s_then
          (Err (why_unfinished end (see.count new.taker)))
      turned-err end h =
          together Gave Did (laws stays further late) _ _ most_input s s_then old new (Err end)
          (λ octets last seen. (held (Err end) octets last seen, by-end end octets last seen)) h

-- ---- where less is said of the facts

module _ {F : Type 0} (rule : Rule F) (Holds Says : List Fact → Type 0)
    (so : (facts : List Fact) → Holds facts → Says facts) where
  all-as : (lines : List (List ℕ)) → AreRead rule Holds lines → AreRead rule Says lines
  all-as lines r = record { known = r.known; facts = r.facts; taken = r.taken; holds = so r.facts r.holds }

  front-as : (lines : List (List ℕ)) → IsFrontRead rule Holds lines → IsFrontRead rule Says lines
  front-as lines r = record { front = r.front; later = r.later; parts = r.parts; read = all-as r.front r.read }

  end-as : {X : Type 0} (r : Result X (Unfinished F)) (octets : List ℕ) (last : Option (List ℕ))
      → EndsTurn rule Holds r octets last → EndsTurn rule Says r octets last
  unfolding all-as
  end-as (Ok answer) octets last e = (e.0, all-as (lines_of octets) e.1)
  end-as (Err (ends.Refused number why)) octets last e =
      let i = e.2 in (
        e.0,
        e.1,
        record {
          earlier = i.earlier;
          line = i.line;
          later = i.later;
          parts = i.parts;
          number_is = i.number_is;
          read = all-as i.earlier i.read;
          denied = i.denied;
        },
      )
  end-as (Err ends.Memory) octets last e = (e.0, e.1, front-as _ e.2)
  end-as (Err ends.WriteFault) octets last e = (e.0, e.1, front-as _ e.2)
  end-as (Err ends.ReadFault) octets last e = (e.0, all-as (whole_lines octets) e.1)
  end-as (Err ends.Limit) octets last e = (e.0, e.1, e.2, all-as _ e.3)

pub turned-as : {F X S : Type 0} (Gave : S → Option (List ℕ) → S → Type 0) (rule : Rule F)
    (Held Said Holds Says : List Fact → Type 0) → ((facts : List Fact) → Held facts → Said facts)
    → ((facts : List Fact) → Holds facts → Says facts) → (s s_then : S) (r : Result X (Unfinished F))
    → ReadsInTurn Gave rule Held Holds s s_then r → ReadsInTurn Gave rule Said Says s s_then r
turned-as Gave rule Held Said Holds Says held so s s_then r t =
    turns-weaker Gave (λ octets. AreRead rule Held (whole_lines octets))
    (λ octets. AreRead rule Said (whole_lines octets)) (EndsTurn rule Holds r) (EndsTurn rule Says r) s s_then
    (λ octets a. all-as rule Held Said held (whole_lines octets) a) (end-as rule Holds Says so r) t
