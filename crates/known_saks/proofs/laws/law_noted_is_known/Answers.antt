use Rattle.known_saks.proofs.Noted.{same_known}
use Rattle.known_saks.proofs.laws.law_noted_is_known.Goals as goal

pub returns : goal.returns
returns c = same_known
