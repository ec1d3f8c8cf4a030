use Rattle.sak_exchange.proofs.Entries.{keys-ticked, old-retired, old-kept}
use Rattle.sak_exchange.proofs.laws.law_a_tick_retires.Goals as goal

pub returns-clause-latest : goal.returns-clause-latest
returns-clause-latest c = λ base h kept. (keys-ticked base h kept).latest

pub returns-clause-retired : goal.returns-clause-retired
returns-clause-retired c = old-retired

pub returns-clause-kept : goal.returns-clause-kept
returns-clause-kept c = old-kept
