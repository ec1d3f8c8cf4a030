use Rattle.std.proofs.Common.{sym, ap, ◌∙◌}
use Rattle.gcm_core.specs.Gcm.{gcm_tag}
use Rattle.gcm_core.proofs.sealing.seal.Goals as goal

pub returns : goal.returns
returns c =
    let text = c.encrypt_text.ensures.text in
    let tag = c.tag_of.ensures.tag ∙ ap (gcm_tag c.args.key.now c.args.iv c.args.extra.now) text in
    λ i. (sym text i, sym tag i)
