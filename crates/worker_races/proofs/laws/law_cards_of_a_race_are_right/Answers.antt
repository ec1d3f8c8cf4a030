use Rattle.worker_races.proofs.CardsBehind.{cards-behind, cards-known}
use Rattle.worker_races.proofs.laws.law_cards_of_a_race_are_right.Goals as goal

pub returns-clause-known : goal.returns-clause-known
returns-clause-known c = λ race is carded. cards-known race is carded

pub returns-clause-behind : goal.returns-clause-behind
returns-clause-behind c = λ race is carded part woven whole. cards-behind race is carded part woven whole
