-- How drawing comes to its end.
use Rattle.std.proofs.Common.{◌≡◌, List, Result, Ok, Err, sym, subst}
use Rattle.std.specs.Prelude.{IfErr, ℕ}
use Rattle.lan_core.specs.declared.fact.Fact.{Fact}
use Rattle.text_lines.specs.Moments.{Moment}
use Rattle.text_lines.specs.Reading.{Sourced}
use Rattle.transcript_reader.specs.Reached.{Reached}
use Rattle.transcript_reader.specs.Transcripts.{EndsReading}
use Rattle.text_lines.specs.declared.unfinished.Unfinished.{Unfinished}
use Rattle.text_lines.specs.declared.unfinished.Unfinished.TheVariants as ends
use Rattle.transcript_reader.proofs.Public.{answers-as, ends-as, not-begun, unanswered}
use Rattle.transcript_check.specs.declared.fault.CheckFault.{CheckFault}
use Rattle.transcript_check.specs.Standing.{by_epochs, without_outlet}
use Rattle.transcript_check.proofs.Public.{none-failed}
use Rattle.transcript_picture.specs.Transcripts.{AreDrawn, EndsDrawing}
use Rattle.transcript_picture.specs.inside.Sketching.{IsSketchOf, KeptSketch}

-- nothing was read, for want of memory
pub not-drawn : {X : Type 0} (text : List ℕ) (left : Sourced) → EndsDrawing {X = X} text left left (Err ends.Memory)
not-drawn {X} text left =
    not-begun X by_epochs (λ facts. Unit {0}) (AreDrawn {X = X} (Err ends.Memory)) text left tt tt

module _ {K : Type 0} (Held : List Fact → Type 0) (first last : Moment KeptSketch K) (text : List ℕ) (left now : Sourced) where
  -- all lines were taken, and there was memory for the picture or not
  pub drawn-end : {X : Type 0} (r : Result X (Unfinished CheckFault)) → IfErr r (λ why. why ≡ ends.Memory)
      → EndsReading by_epochs Held (Reached {F = CheckFault} (without_outlet IsSketchOf) first last (Ok (tt {0}))) text left now (Ok (tt {0}))
      → EndsDrawing text left now r
  drawn-end {X} (Ok picture) is e =
      answers-as by_epochs Held (λ facts. Unit {0}) (Reached {F = CheckFault} (without_outlet IsSketchOf) first last (Ok (tt {0})))
      (AreDrawn (Ok picture)) (λ facts held. tt) (λ facts took. tt) text left now tt picture e
  drawn-end {X} (Err why) is e =
      subst (λ (w : Unfinished CheckFault). EndsDrawing {X = X} text left now (Err w)) (sym is)
      (unanswered by_epochs Held (λ facts. Unit {0}) (Reached {F = CheckFault} (without_outlet IsSketchOf) first last (Ok (tt {0})))
      (AreDrawn {X = X} (Err ends.Memory)) (λ facts held. tt) (λ facts took. tt) text left now X tt e)

  pub drawn-err : {X : Type 0} (why : Unfinished CheckFault)
      → EndsReading {X = Unit {0}} by_epochs Held (Reached (without_outlet IsSketchOf) first last (Err why)) text left now (Err why)
      → EndsDrawing {X = X} text left now (Err why)
  drawn-err {X} why e =
      ends-as by_epochs Held (λ facts. Unit {0}) (Reached (without_outlet IsSketchOf) first last (Err why)) (AreDrawn {X = X} (Err why))
      (λ facts held. tt) (none-failed IsSketchOf first last why) text left now (Unit {0}) X why e
