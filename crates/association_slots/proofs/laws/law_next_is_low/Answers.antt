use Rattle.std.proofs.Common.{arith}
use Rattle.association_slots.specs.Views.{slot}
use Rattle.association_slots.proofs.Sixteen.{sixteen}
use Rattle.association_slots.proofs.laws.law_next_is_low.Goals as goal

pub returns : goal.returns
returns _ c ws vs a = (λ an e. sixteen c ws vs an e a.ledger, λ an raised. let b = a.sums.bound an raised in let s = sixteen c ws vs an (slot c an).epoch a.ledger in omega arith)
