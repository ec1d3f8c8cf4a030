use Rattle.std.proofs.Common.{sym, ◌∙◌, ap}
use Rattle.std.specs.Option.{option_map}
use Rattle.sak_exchange.specs.Held.{held}
use Rattle.sak_exchange.proofs.Entries.{transmitting-is}
use Rattle.sak_exchange.proofs.Currents.{current-told}
use Rattle.sak_exchange.proofs.key_state.KeyState.transmitting.Goals as goal

pub returns : goal.returns
returns c = λ base own pending h s. c.current.ensures ∙ current-told base own pending c.args.self.now h s ∙ ap (option_map (held h)) (sym (transmitting-is base h s.kept))
