use Rattle.std.proofs.Common.{rules}
use Rattle.gcm_frames.proofs.Found.{by-tag-conf, by-tag-plain}
use Rattle.gcm_frames.proofs.validating.is_tag_right.Goals as goal

pub returns-then-tag : goal.returns-then-tag
returns-then-tag c =
    by-tag-conf c.args.key.now c.args.frame.now c.args.tag.now c.is_sealed.result c.args.iv _ _ _ c.if-tag.true
    (search rules) (search rules) c.check_of-check.ensures c.is_sealed.ensures

pub returns-else-tag : goal.returns-else-tag
returns-else-tag c =
    by-tag-plain c.args.key.now c.args.frame.now c.args.tag.now c.is_sealed-else-tag.result c.args.iv _ _ c.if-tag.false
    (search rules) c.check_of-check.ensures c.is_sealed-else-tag.ensures
