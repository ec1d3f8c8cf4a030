use Rattle.std.proofs.Common.{◌∙◌}
use Rattle.sak_exchange.proofs.Makes.{makes-told}
use Rattle.sak_exchange.proofs.key_state.KeyState.makes.Goals as goal

pub returns : goal.returns
returns c = λ base own h s.
    let d = c.args.due.now in c.makes_now.ensures ∙ makes-told base own c.args.self.now h d.live.now d.potential d.seen d.rekey s
