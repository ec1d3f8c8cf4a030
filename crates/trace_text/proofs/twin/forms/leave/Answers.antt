use Rattle.std.proofs.Common.{rules}
use Rattle.trace_text.proofs.twin.forms.leave.Goals as goal

pub returns-in_err-group-2 : goal.returns-in_err-group-2
returns-in_err-group-2 c = search rules

pub returns : goal.returns
returns c = search rules
