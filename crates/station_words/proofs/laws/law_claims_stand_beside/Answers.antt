use Rattle.station_words.proofs.Beside.{beside-first, beside-event, beside-claim, beside-moved}
use Rattle.station_words.proofs.laws.law_claims_stand_beside.Goals as goal

pub returns-clause-first : goal.returns-clause-first
returns-clause-first c = beside-first

pub returns-clause-event : goal.returns-clause-event
returns-clause-event c = beside-event

pub returns-clause-claim : goal.returns-clause-claim
returns-clause-claim c = beside-claim

pub returns-clause-facts : goal.returns-clause-facts
returns-clause-facts c = beside-moved
