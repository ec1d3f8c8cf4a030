use Rattle.sak_exchange.proofs.Stills.{stands-still}
use Rattle.sak_exchange.proofs.key_state.KeyState.pass_still.Goals as goal

pub returns-clause-stands : goal.returns-clause-stands
returns-clause-stands c = λ elected base own h s still. rw c.count.ensures (stands-still elected base own c.args.self.now h s still)
