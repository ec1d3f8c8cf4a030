use Rattle.gcm_frames.proofs.Reopened.{longer}
use Rattle.gcm_frames.proofs.laws.law_protected_is_longer.Goals as goal

pub returns : goal.returns
returns c = λ key sci an pn conf user is_key s. longer key sci an pn conf user c.law_ciphertexts_are_blocks.ensures is_key s
