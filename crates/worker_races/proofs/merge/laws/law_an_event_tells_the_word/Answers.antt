use Rattle.worker_races.proofs.weaving.EventTold.{event-told}
use Rattle.worker_races.proofs.merge.laws.law_an_event_tells_the_word.Goals as goal

pub returns : goal.returns
returns c = event-told
