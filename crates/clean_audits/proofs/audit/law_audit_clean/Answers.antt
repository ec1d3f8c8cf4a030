use Rattle.clean_audits.proofs.CleanRuns.{clean, Laws}
use Rattle.clean_audits.proofs.audit.law_audit_clean.Goals as goal

pub returns : goal.returns
returns c = record {
  legal = λ settings users r packets v legal fresh unforged once are each judged.
      clean laws settings users r packets v
      (record { stepped = legal.stepped; fresh = fresh; unforged = unforged }) once are each judged;
  stepped = λ settings users r packets v stepped fresh unforged once are each judged.
      clean laws settings users r packets v
      (record { stepped = stepped; fresh = fresh; unforged = unforged }) once are each judged;
}
  where
    laws : Laws
    laws = record {
      one_wrap = c.law_one_key_for_one_wrap.ensures;
      protect = record {
        reads = c.law_protected_is_read.ensures;
        longer = c.law_protected_is_longer.ensures;
        opens = c.law_protected_is_opened.ensures;
      };
      counted = c.law_epochs_count.ensures.counted;
      least = c.law_the_first_reuse_is_the_least_pair.ensures;
    }
