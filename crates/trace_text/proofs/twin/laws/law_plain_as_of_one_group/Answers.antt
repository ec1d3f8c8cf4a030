use Rattle.trace_text.proofs.twin_lines.Plain.{plain_reads}
use Rattle.trace_text.proofs.twin.laws.law_plain_as_of_one_group.Goals as goal

pub returns : goal.returns
returns c = plain_reads
