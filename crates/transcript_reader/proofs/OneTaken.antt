-- One line of a transcript is read, and its fact is taken.
use Rattle.std.proofs.Common.{◌≡◌, ◌∙◌, ◌+◌, ℕ, List, [], ◌∷◌, ◌++◌, length, Result, Ok, Err, refl, sym, ap, arith, inl, inr}
use Rattle.std.proofs.lemmas.List.{length-append}
use Rattle.lan_core.specs.declared.fact.Fact.{Fact}
use Rattle.text_lines.specs.Moments.{Moment}
use Rattle.transcript.specs.declared.fault.FactError.{FactError}
use Rattle.transcript.specs.declared.fault.FactError.TheVariants as readings
use Rattle.transcript_reader.specs.Facts.{Known, Tells}
use Rattle.transcript_reader.specs.Taking.{Courses, Rule, TakesFact}
use Rattle.transcript_reader.specs.declared.take_error.TakeError.{TakeError}
use Rattle.transcript_reader.specs.declared.take_error.TakeError.TheVariants.{Refused, Failed, Memory}
use Rattle.transcript_reader.specs.inside.Lines.{TookBy, TookPart, not_read}

module _ {F T K : Type 0} (rule : Rule F) (courses : Courses T K) (first : Moment T K) (known : Known)
    (facts : List Fact) (line : List ℕ) where
  -- the line was not taken, since no memory was left
  abbrev pub not-taken : (Holds : List Fact → Type 0) → Holds facts → TookPart rule Holds known facts (line ∷ [])
  not-taken Holds holds = record {
    front = [];
    later = line ∷ [];
    parts = refl;
    after = known;
    told = facts;
    taken = (refl, refl);
    holds = holds;
  }

  module _ (after : Known) (fact : Fact) (tells : Tells known line after fact) where
    abbrev taken-part : (Holds : List Fact → Type 0) → rule.Free facts fact → Holds (facts ++ fact ∷ [])
        → TookPart rule Holds known facts (line ∷ [])
    taken-part Holds free holds = record {
      front = line ∷ [];
      later = [];
      parts = refl;
      after = after;
      told = facts ++ fact ∷ [];
      taken = (after, fact, tells, free, (refl, refl));
      holds = holds;
    }

    pub fact-taken : (u : Unit {0}) (count more : ℕ) (now : Moment T K) → count ≡ length facts → more ≡ count + 1
        → rule.Free facts fact × courses.Took first (facts ++ fact ∷ []) now
        → TookBy rule courses first known facts (line ∷ []) after more now (Ok u)
    fact-taken u count more now counts one t = record {
      told = facts ++ fact ∷ [];
      taken = (after, fact, tells, t.0, (refl, refl));
      counted = let l = length-append facts (fact ∷ []) in omega (arith, l, counts, one);
      holds = t.1;
    }

    pub fact-stopped : (Refuses : List Fact → Fact → F → Type 0)
        → ((why : F) → Refuses facts fact why → rule.Denies known facts line why)
        → (count : ℕ) (now : Moment T K) (error : TakeError F) → count ≡ length facts
        → TakesFact rule Refuses courses first facts fact now (Err error)
        → TookBy rule courses first known facts (line ∷ []) after count now (Err error)
    fact-stopped Refuses denied count now (Refused why) counts t = record {
      earlier = [];
      line = line;
      later = [];
      parts = refl;
      after = known;
      took = record { told = facts; taken = (refl, refl); counted = counts; holds = t.1 };
      denied = denied why t.0;
    }
    fact-stopped Refuses denied count now Failed counts t =
        taken-part (λ told. courses.Cut first told now) t.0 t.1
    fact-stopped Refuses denied count now Memory counts (inl t) =
        not-taken (λ told. courses.Broke first told now) t
    fact-stopped Refuses denied count now Memory counts (inr t) =
        taken-part (λ told. courses.Broke first told now) t.0 t.1

  -- the line was not read
  pub line-unread : (count : ℕ) (now : Moment T K) (then : Known) (fault : FactError) (unread : F) → count ≡ length facts
      → courses.Took first facts now → (courses.Took first facts now → courses.Broke first facts now)
      → (fault ≡ readings.Unread → rule.Denies known facts line unread)
      → TookBy rule courses first known facts (line ∷ []) then count now (Err (not_read fault unread))
  line-unread count now then readings.Unread unread counts took breaks denied = record {
    earlier = [];
    line = line;
    later = [];
    parts = refl;
    after = known;
    took = record { told = facts; taken = (refl, refl); counted = counts; holds = took };
    denied = denied refl;
  }
  line-unread count now then readings.Memory unread counts took breaks denied =
      not-taken (λ told. courses.Broke first told now) (breaks took)

-- the outlet did not fail where a line is not read
pub not-failed : {F : Type 0} (fault : FactError) (unread : F) → not_read fault unread ≡ Failed → ⊥
not-failed readings.Unread unread is = cc is
not-failed readings.Memory unread is = cc is

pub same-error : {F : Type 0} (r : Result (Unit {0}) (TakeError F)) (a b : TakeError F) → r ≡ Err a → r ≡ Err b → a ≡ b
same-error {F} r a b is also = ap error (sym is ∙ also)
  where
    error : Result (Unit {0}) (TakeError F) → TakeError F
    error (Ok x) = a
    error (Err e) = e
