use Rattle.group_safety.proofs.moves.Starting.{blank-before, blank-account, nothing-carried}
use Rattle.group_safety.proofs.transmitting.law_a_place_without_a_station_is_blank.Goals as goal

pub returns : goal.returns
returns c = λ settings users old r s before stepped past. (
  nothing-carried settings users old r s before past,
  blank-account settings s r (blank-before settings users r s stepped past),
)
