use Rattle.peer_lists.proofs.AtMost.{known-at-most}
use Rattle.peer_lists.proofs.Refusals.{known-is}
use Rattle.peer_lists.proofs.laws.law_known_are_few.Goals as goal

pub returns-clause-known : goal.returns-clause-known
returns-clause-known c = λ own h. rw (known-is own h) (known-at-most own h)
