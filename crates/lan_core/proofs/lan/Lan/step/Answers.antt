use Rattle.std.proofs.Common.{rules}
use Rattle.lan_core.proofs.lan.Lan.step.Goals as goal

pub returns-in-Err-clause-stopped : goal.returns-in-Err-clause-stopped
returns-in-Err-clause-stopped g c = search rules
