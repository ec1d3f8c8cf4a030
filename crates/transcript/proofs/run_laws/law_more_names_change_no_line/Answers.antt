use Rattle.transcript.proofs.NamesGrow.{names-grow}
use Rattle.transcript.proofs.run_laws.law_more_names_change_no_line.Goals as goal

pub returns : goal.returns
returns c = record {
  fact = λ names more fact fit. (names-grow names more fact fit).0;
  same = λ names more fact fit. (names-grow names more fact fit).1;
}
