use Rattle.sak_exchange.proofs.Unwrapping.{unwrapped-is}
use Rattle.sak_exchange.proofs.offer.unwrapped128.Goals as goal

pub returns : goal.returns
returns c = unwrapped-is 16 c.args.kek.now c.args.octets.now c.unwrap.result c.unwrap.ensures.only c.unwrap.ensures.none
