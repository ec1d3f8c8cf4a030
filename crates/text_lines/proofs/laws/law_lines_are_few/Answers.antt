use Rattle.text_lines.proofs.Few.{within-few}
use Rattle.text_lines.proofs.laws.law_lines_are_few.Goals as goal

pub returns : goal.returns
returns c = within-few
