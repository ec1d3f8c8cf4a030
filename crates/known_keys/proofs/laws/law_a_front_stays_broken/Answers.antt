use Rattle.known_keys.proofs.KeysOfFronts.{stays-broken}
use Rattle.known_keys.proofs.laws.law_a_front_stays_broken.Goals as goal

pub returns : goal.returns
returns c = stays-broken
