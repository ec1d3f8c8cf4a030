use Rattle.peer_lists.proofs.Numbers.{sent-at-most}
use Rattle.peer_lists.proofs.laws.law_sent_is_at_most_the_clock_and_one.Goals as goal

pub returns-clause-sent : goal.returns-clause-sent
returns-clause-sent c = λ h counted. (sent-at-most h counted).0

pub returns-clause-next : goal.returns-clause-next
returns-clause-next c = λ h counted. (sent-at-most h counted).1

pub returns-clause-counted : goal.returns-clause-counted
returns-clause-counted c = λ own t h s. s.counted
