use Rattle.clean_audits.proofs.CleanRuns.{Laws, right-claimed}
use Rattle.clean_audits.proofs.audit.law_right_frames_are_claimed.Goals as goal

pub returns : goal.returns
returns c = λ settings users r packets e stepped fresh unforged once are each there.
    right-claimed laws settings users r packets e
    (record { stepped = stepped; fresh = fresh; unforged = unforged }) once are each there
  where
    laws : Laws
    laws = record {
      one_wrap = c.law_one_key_for_one_wrap.ensures;
      protect = record {
        reads = c.law_protected_is_read.ensures;
        longer = c.law_protected_is_longer.ensures;
        opens = c.law_protected_is_opened.ensures;
      };
      counted = c.law_epochs_count.ensures.counted;
      least = c.law_the_first_reuse_is_the_least_pair.ensures;
    }
