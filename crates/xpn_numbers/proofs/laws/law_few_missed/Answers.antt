use Rattle.xpn_numbers.proofs.Missed.{few_missed}
use Rattle.xpn_numbers.proofs.laws.law_few_missed.Goals as goal

pub returns : goal.returns
returns c = few_missed
