use Rattle.sak_exchange.proofs.Unwrapping.{unwrapped-is}
use Rattle.sak_exchange.proofs.offer.unwrapped256.Goals as goal

pub returns : goal.returns
returns c = unwrapped-is 32 c.args.kek.now c.args.octets.now c.unwrap256.result c.unwrap256.ensures.only c.unwrap256.ensures.none
