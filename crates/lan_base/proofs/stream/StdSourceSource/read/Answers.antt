use Rattle.lan_base.proofs.Known.{read_kept, read_moved}
use Rattle.lan_base.proofs.stream.StdSourceSource.read.Goals as goal

pub returns-then-is_err-clause-kept : goal.returns-then-is_err-clause-kept
returns-then-is_err-clause-kept g c =
    read_kept _ _ _ _ (g.met.R.KnownRead.steady _ _) c.read_through-result.ensures.passed

pub returns-else-is_err-clause-moved : goal.returns-else-is_err-clause-moved
returns-else-is_err-clause-moved g c =
    read_moved _ _ _ _ (g.met.R.KnownRead.steady _ _) c.read_through-result.ensures.passed
