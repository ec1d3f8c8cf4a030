use Rattle.std.proofs.Common.{◌∙◌, sym}
use Rattle.sak_exchange.proofs.Stills.{still}
use Rattle.sak_exchange.proofs.key_state.KeyState.stays.Goals as goal

pub returns : goal.returns
returns c = λ is base own h s. still c.args.elected base own c.args.self.now h s (sym c.stays_now.ensures ∙ is)
