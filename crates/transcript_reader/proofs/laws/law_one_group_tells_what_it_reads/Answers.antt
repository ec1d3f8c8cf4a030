use Rattle.transcript_reader.proofs.Course.{one-tells, one-reads}
use Rattle.transcript_reader.proofs.laws.law_one_group_tells_what_it_reads.Goals as goal

pub returns : goal.returns
returns c = record {
  tells = λ known line after fact is reads. one-tells known line after fact is reads;
  reads = λ known line then fact is t. one-reads known line then fact is t;
}
