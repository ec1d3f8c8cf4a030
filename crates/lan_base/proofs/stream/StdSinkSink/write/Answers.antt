use Rattle.lan_base.proofs.Known.{write_kept, write_appended}
use Rattle.lan_base.proofs.stream.StdSinkSink.write.Goals as goal

pub returns-then-is_err-clause-kept : goal.returns-then-is_err-clause-kept
returns-then-is_err-clause-kept g c =
    write_kept _ _ _ _ (g.met.W.KnownWrite.steady _ _) c.write_through-result.ensures.passed

pub returns-else-is_err-clause-appended : goal.returns-else-is_err-clause-appended
returns-else-is_err-clause-appended g c =
    write_appended _ _ _ _ (g.met.W.KnownWrite.steady _ _) c.write_through-result.ensures.passed
