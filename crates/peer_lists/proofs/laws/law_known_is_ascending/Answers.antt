use Rattle.std.proofs.Common.{◌∙◌, ap}
use Rattle.lan_base.specs.Identifiers.{has}
use Rattle.peer_lists.specs.Histories.{clock}
use Rattle.peer_lists.specs.Acceptance.{accepted}
use Rattle.peer_lists.proofs.Refusals.{known-ascending, known-is, has-members}
use Rattle.peer_lists.proofs.laws.law_known_is_ascending.Goals as goal

pub returns-clause-ascending : goal.returns-clause-ascending
returns-clause-ascending c = known-ascending

pub returns-clause-whom : goal.returns-clause-whom
returns-clause-whom c = λ own h m. ap (has m) (known-is own h) ∙ has-members (clock h) m (accepted own h)
