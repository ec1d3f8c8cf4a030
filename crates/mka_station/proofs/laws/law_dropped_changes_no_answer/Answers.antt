use Rattle.mka_station.proofs.Alike.{ticked-alike, heard-alike, ended-alike}
use Rattle.mka_station.proofs.laws.law_dropped_changes_no_answer.Goals as goal

pub returns-clause-ticked : goal.returns-clause-ticked
returns-clause-ticked c = ticked-alike

pub returns-clause-heard : goal.returns-clause-heard
returns-clause-heard c = heard-alike

pub returns-clause-ended : goal.returns-clause-ended
returns-clause-ended c = ended-alike
