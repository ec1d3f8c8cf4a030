use Rattle.use_notes.proofs.Fronts.{front-stays}
use Rattle.use_notes.proofs.laws.law_a_front_stays_broken.Goals as goal

pub returns : goal.returns
returns c = front-stays
