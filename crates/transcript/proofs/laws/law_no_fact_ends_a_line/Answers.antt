use Rattle.transcript.proofs.Texts.{line_lacks, line_returns_never}
use Rattle.transcript.proofs.laws.law_no_fact_ends_a_line.Goals as goal

pub returns-clause-feeds_never : goal.returns-clause-feeds_never
returns-clause-feeds_never c = line_lacks

pub returns-clause-returns_never : goal.returns-clause-returns_never
returns-clause-returns_never c = line_returns_never
