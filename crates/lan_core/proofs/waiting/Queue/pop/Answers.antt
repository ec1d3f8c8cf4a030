use Rattle.std.proofs.Common.{rules}
use Rattle.lan_core.proofs.waiting.Queue.pop.Goals as goal

pub returns-clause-front : goal.returns-clause-front
returns-clause-front c = search rules
