use Rattle.member_text.proofs.Plain.{plain_reads}
use Rattle.member_text.proofs.laws.law_plain_as_of_a_trace.Goals as goal

pub returns : goal.returns
returns c = plain_reads
