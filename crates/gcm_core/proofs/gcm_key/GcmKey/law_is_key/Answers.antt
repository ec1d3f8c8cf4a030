use Rattle.std.proofs.Common.{subst}
use Rattle.aes_block.specs.Aes.{IsKey}
use Rattle.gcm_core.proofs.gcm_key.GcmKey.law_is_key.Goals as goal

pub returns : goal.returns
returns c = subst IsKey c.self.view_is c.law_is_key.ensures
