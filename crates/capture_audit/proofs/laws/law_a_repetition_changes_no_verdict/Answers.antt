use Rattle.capture_audit.proofs.Inserting.{once-moved, one-key-moved}
use Rattle.capture_audit.proofs.laws.law_a_repetition_changes_no_verdict.Goals as goal

pub returns : goal.returns
returns c = record {
  once = λ ring later before u nanos is_untimed one two was is. once-moved ring before u nanos is_untimed later one two was is;
  one_key = λ ring later before u nanos is_untimed one two was is.
      one-key-moved ring before u nanos is_untimed later one two was is;
}
