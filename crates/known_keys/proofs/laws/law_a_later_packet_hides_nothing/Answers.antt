use Rattle.known_keys.proofs.KeysOfFronts.{given-front}
use Rattle.known_keys.proofs.laws.law_a_later_packet_hides_nothing.Goals as goal

pub returns : goal.returns
returns c = λ later earlier end packet behind within. given-front later earlier end behind packet within
