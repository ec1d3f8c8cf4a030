use Rattle.std.proofs.Common.{ℕ, List, Err}
use Rattle.text_lines.specs.declared.unfinished.Unfinished.TheVariants as ends
use Rattle.transcript_check.specs.declared.verdict.Verdict.{Verdict}
use Rattle.transcript_check.specs.Transcripts.{AreJudged}
use Rattle.transcript_picture.specs.Transcripts.{AreDrawn}
use Rattle.transcript_picture.proofs.Alike.{OneRefusal, bare-refused, refused-alike}
use Rattle.transcript_picture.proofs.laws.law_drawing_refuses_as_judging_does.Goals as goal

pub returns : goal.returns
returns c = record {
  judged = λ text left now first last number why result d e.
      refused-alike law text number why
      (bare-refused (List ℕ) (AreDrawn {X = List ℕ} (Err (ends.Refused number why))) text left now number why d.ends)
      AreJudged (λ facts holds. holds) first last result e.ends;
  drawn = λ text left now first last number why result d e.
      refused-alike law text number why
      (bare-refused Verdict (AreJudged (Err (ends.Refused number why))) text left now number why d.ends)
      (AreDrawn {X = List ℕ}) (λ facts holds. holds) first last result e.ends;
}
  where
    law : OneRefusal
    law = record {
      one = c.law_one_line_is_refused.ensures.one;
      none = c.law_one_line_is_refused.ensures.none;
    }
