use Rattle.std.proofs.Common.{subst}
use Rattle.aes_block.specs.Aes.{IsKey}
use Rattle.aes_block.proofs.key.Key.law_is_key.Goals as goal

pub returns : goal.returns
returns c = subst IsKey c.self.view_is c.self.invariant.is_key
