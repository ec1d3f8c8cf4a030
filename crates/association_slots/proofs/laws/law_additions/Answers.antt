use Rattle.std.proofs.Common.{arith}
use Rattle.association_slots.proofs.laws.law_additions.Goals as goal

pub returns : goal.returns
returns _ c ws vs a b i = let m = a.ledger.additions b i in (m.order.0, m.order.1, omega (arith, m.order.2, a.words.epochs b.an), m.raised, m.pointed)
