use Rattle.group_safety.proofs.told.Late.{steady, first_way, in_time, found, second_way, too_late}
use Rattle.group_safety.proofs.told.Late.{way_to_carol, not_at_carol}
use Rattle.group_safety.proofs.worked.law_late.Goals as goal

pub returns-clause-steady : goal.returns-clause-steady
returns-clause-steady c = steady

pub returns-clause-flies : goal.returns-clause-flies
returns-clause-flies c = first_way

pub returns-clause-in_time : goal.returns-clause-in_time
returns-clause-in_time c = in_time

pub returns-clause-found : goal.returns-clause-found
returns-clause-found c = found

pub returns-clause-flies_again : goal.returns-clause-flies_again
returns-clause-flies_again c = second_way

pub returns-clause-too_late : goal.returns-clause-too_late
returns-clause-too_late c = too_late

pub returns-clause-flies_to_carol : goal.returns-clause-flies_to_carol
returns-clause-flies_to_carol c = way_to_carol

pub returns-clause-no_keeper : goal.returns-clause-no_keeper
returns-clause-no_keeper c = not_at_carol
