use Rattle.mka_station.proofs.Drops.{installs-ticked, sent-ticked, installs-heard, sent-heard}
use Rattle.mka_station.proofs.laws.law_turns_count.Goals as goal

pub returns-clause-ticked : goal.returns-clause-ticked
returns-clause-ticked c = installs-ticked

pub returns-clause-sent : goal.returns-clause-sent
returns-clause-sent c = sent-ticked

pub returns-clause-heard : goal.returns-clause-heard
returns-clause-heard c = installs-heard

pub returns-clause-silent : goal.returns-clause-silent
returns-clause-silent c = sent-heard
