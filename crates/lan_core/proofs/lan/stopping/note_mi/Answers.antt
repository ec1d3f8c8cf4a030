use Rattle.std.proofs.Common.{rules}
use Rattle.lan_core.proofs.lan.stopping.note_mi.Goals as goal

pub returns-clause-judges : goal.returns-clause-judges
returns-clause-judges c = search rules
