use Rattle.known_keys.proofs.KeysOfFronts.{front-keys}
use Rattle.known_keys.proofs.laws.law_a_front_knows_a_front.Goals as goal

pub returns : goal.returns
returns c = front-keys
