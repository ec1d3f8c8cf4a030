use Rattle.worker_races.proofs.weaving.Words.{noted, lives}
use Rattle.worker_races.proofs.merge.laws.law_words_place_the_logs.Goals as goal

pub returns-clause-noted : goal.returns-clause-noted
returns-clause-noted c = noted

pub returns-clause-lives : goal.returns-clause-lives
returns-clause-lives c = lives
