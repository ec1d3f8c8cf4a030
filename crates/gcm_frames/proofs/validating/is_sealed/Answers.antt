use Rattle.std.proofs.Common.{◌∙◌, ap}
use Rattle.gcm_frames.specs.Sealed.{is_tag_right_with}
use Rattle.gcm_frames.proofs.Offsets.{opens}
use Rattle.gcm_frames.proofs.validating.is_sealed.Goals as goal

pub returns : goal.returns
returns c =
    c.is_tag_right.ensures ∙ ap (λ v. is_tag_right_with c.args.key.now v c.args.tag.now c.args.frame.now) c.iv_of.ensures
    ∙ opens c.args.key.now c.args.frame.now c.args.tag.now
