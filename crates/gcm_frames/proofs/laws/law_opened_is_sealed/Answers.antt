use Rattle.std.proofs.Common.{◌∙◌, Some, ap, sym}
use Rattle.gcm_frames.specs.Protected.{iv}
use Rattle.gcm_frames.specs.Sealed.{opened}
use Rattle.gcm_frames.proofs.Opening.{encrypts, opened_some, sealed_from}
use Rattle.gcm_frames.proofs.laws.law_opened_is_sealed.Goals as goal

pub returns : goal.returns
unfolding opened
returns c = λ key frame user tag is_key is_sci.
    let w = encrypts key tag.sci tag.pn c.law_ciphertexts_are_blocks.ensures is_key is_sci in
    (sealed_from key (iv tag.sci tag.pn) frame user tag w, λ s. opened_some key (iv tag.sci tag.pn) frame s.0 tag w s.1 ∙ sym (ap (λ u. Some u) s.2))
