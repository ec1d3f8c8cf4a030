use Rattle.std.proofs.Common.{◌∙◌, ap}
use Rattle.gcm_frames.specs.Protected.{iv}
use Rattle.gcm_frames.specs.Sealed.{is_tag_right_with}
use Rattle.gcm_frames.proofs.Offsets.{no_clear, opens}
use Rattle.gcm_frames.proofs.laws.law_sealed_without_offset.Goals as goal

pub returns : goal.returns
returns c = λ key frame tag. ap (λ t. is_tag_right_with key (iv tag.sci tag.pn) t frame) (no_clear tag) ∙ opens key frame tag
