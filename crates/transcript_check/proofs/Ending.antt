-- How judging comes to its end, and what noting a fact is to a taker of facts.
use Rattle.std.proofs.Common.{◌≡◌, ℕ, List, Ok, Err}
use Rattle.lan_core.specs.declared.fact.Fact.{Fact}
use Rattle.text_lines.specs.Moments.{Moment}
use Rattle.text_lines.specs.Reading.{Sourced}
use Rattle.transcript_reader.specs.Reached.{HasNoOutlet, Reached}
use Rattle.transcript_reader.specs.Transcripts.{EndsReading}
use Rattle.text_lines.specs.declared.unfinished.Unfinished.{Unfinished}
use Rattle.text_lines.specs.declared.unfinished.Unfinished.TheVariants as ends
use Rattle.transcript_reader.proofs.Public.{answers-as, ends-as, not-begun}
use Rattle.transcript_check.specs.declared.fault.CheckError.TheVariants.{Refused, Memory}
use Rattle.transcript_check.specs.declared.fault.CheckFault.{CheckFault}
use Rattle.transcript_check.specs.declared.verdict.Verdict.{Verdict}
use Rattle.transcript_check.specs.Standing.{IsVerdict, Maps, StandsFor, by_epochs, without_outlet}
use Rattle.transcript_check.specs.Transcripts.{AreJudged, EndsJudging}

-- ---- one fact

-- ---- a whole transcript

-- nothing was read, for want of memory
pub not-judged : (text : List ℕ) (left : Sourced) → EndsJudging text left left (Err ends.Memory)
not-judged text left =
    not-begun Verdict by_epochs (λ facts. Unit {0}) (AreJudged (Err ends.Memory)) text left tt tt

-- where there is no outlet, none failed
module _ {T K : Type 0} (Stands : List Fact → T → Type 0) (first last : Moment T K) where
  pub none-failed : (why : Unfinished CheckFault) (facts : List Fact)
      → Reached (without_outlet Stands) first last (Err why) facts → HasNoOutlet why
  none-failed (ends.Refused number why) facts took = tt
  none-failed ends.Memory facts took = tt
  none-failed ends.ReadFault facts took = tt
  none-failed ends.WriteFault facts took = took
  none-failed ends.Limit facts took = tt

module _ {K : Type 0} (Held : List Fact → Type 0) (first last : Moment Maps K) (text : List ℕ) (left now : Sourced) where
  pub judged-ok : (verdict : Verdict) → ((facts : List Fact) → StandsFor facts last.taker → IsVerdict facts verdict)
      → EndsReading by_epochs Held (Reached {F = CheckFault} (without_outlet StandsFor) first last (Ok (tt {0}))) text left now (Ok (tt {0}))
      → EndsJudging text left now (Ok verdict)
  judged-ok verdict says e =
      answers-as by_epochs Held (λ facts. Unit {0}) (Reached {F = CheckFault} (without_outlet StandsFor) first last (Ok (tt {0})))
      (AreJudged (Ok verdict)) (λ facts held. tt) says text left now tt verdict e

  pub judged-err : (why : Unfinished CheckFault)
      → EndsReading {X = Unit {0}} by_epochs Held (Reached (without_outlet StandsFor) first last (Err why)) text left now (Err why)
      → EndsJudging text left now (Err why)
  judged-err why e =
      ends-as by_epochs Held (λ facts. Unit {0}) (Reached (without_outlet StandsFor) first last (Err why)) (AreJudged (Err why))
      (λ facts held. tt) (none-failed StandsFor first last why) text left now (Unit {0}) Verdict why e
