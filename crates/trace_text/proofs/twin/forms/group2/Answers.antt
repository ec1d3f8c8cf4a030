use Rattle.std.proofs.Common.{rules}
use Rattle.trace_text.proofs.twin.forms.group2.Goals as goal

pub returns-in_err-cak-2 : goal.returns-in_err-cak-2
returns-in_err-cak-2 c = search rules

pub returns-in_err-ckn : goal.returns-in_err-ckn
returns-in_err-ckn c = search rules

pub returns : goal.returns
returns c = search rules
