use Rattle.std.proofs.Common.{rules}
use Rattle.lan_core.proofs.lan.Lan.admit.Goals as goal

pub returns-in-Err-clause-stopped : goal.returns-in-Err-clause-stopped
returns-in-Err-clause-stopped c = search rules
