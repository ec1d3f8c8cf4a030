use Rattle.std.proofs.Common.{ap}
use Rattle.std.specs.Prelude.{is_some}
use Rattle.sak_exchange.proofs.Both.{received-both, at-most-two, first-is, beside-old, keys-of}
use Rattle.sak_exchange.proofs.laws.law_at_most_two_are_received.Goals as goal

pub returns-clause-both : goal.returns-clause-both
returns-clause-both c = received-both

pub returns-clause-most : goal.returns-clause-most
returns-clause-most c = at-most-two

pub returns-clause-last : goal.returns-clause-last
returns-clause-last c = λ base h l kept is. (first-is base h l kept is).last

pub returns-clause-beside : goal.returns-clause-beside
returns-clause-beside c = λ base h o kept is. let found = beside-old base h o kept is in ap is_some (keys-of h found.0 o found.1).0
