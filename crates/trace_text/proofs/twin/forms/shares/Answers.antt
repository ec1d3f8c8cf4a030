use Rattle.std.proofs.Common.{rules}
use Rattle.trace_text.proofs.twin.forms.shares.Goals as goal

pub returns-in-Draws : goal.returns-in-Draws
returns-in-Draws c = search rules
