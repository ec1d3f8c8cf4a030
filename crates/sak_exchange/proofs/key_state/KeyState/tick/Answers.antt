use Rattle.sak_exchange.proofs.Ticks.{stands-ticked}
use Rattle.sak_exchange.proofs.key_state.KeyState.tick.Goals as goal

pub returns-clause-stands : goal.returns-clause-stands
returns-clause-stands c = λ base own h s. rw c.count.ensures (stands-ticked base own c.args.self.now h s)
