use Rattle.peer_lists.specs.Histories.{clock}
use Rattle.peer_lists.specs.Acceptance.{accepted, young_numbers}
use Rattle.peer_lists.proofs.Finds.{greatest-first}
use Rattle.peer_lists.proofs.Pasts.{accepted-falling}
use Rattle.peer_lists.proofs.laws.law_kept_is_last.Goals as goal

pub returns-clause-falling : goal.returns-clause-falling
returns-clause-falling c = accepted-falling

pub returns-clause-greatest : goal.returns-clause-greatest
returns-clause-greatest c = λ own h m. greatest-first (young_numbers (clock h) m (accepted own h)) (accepted-falling own h m)
